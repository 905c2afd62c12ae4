-- `check_records::tile_body::sections_right` meets its contract. Assumes nothing.
use mathlib.Core.Path.{◌≡◌}
use mathlib.Core.Bool.{true}
use Rattle.wire.specs.Tests.{all_below}
use Rattle.header.specs.Element.{entry_start}
use Rattle.bodies.specs.TileRecord.{section_at}
use Rattle.check_records.specs.TileBody.{section_right}
use Rattle.check_records.proofs.tile_body.sections_right.Given as goal

abbrev pub invariant-loop-e : goal.invariant-loop-e
invariant-loop-e l = (all_below l.e (section_right l.s l.at) ≡ true) × ((l.p ≡ section_at l.s l.at l.e) × (l.q ≡ entry_start l.s l.e))
