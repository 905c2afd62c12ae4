-- `bodies::tile_record::section_at` meets its contract. Assumes nothing.
use Prim.Native.Nat.{◌+◌, ◌≤◌}
use mathlib.Core.Path.{◌≡◌}
use lib.ListN.{length}
use Rattle.wire.specs.Items.{advance}
use Rattle.bodies.specs.TileRecord.{section_end, section_at, longest_section}
use Rattle.bodies.proofs.tile_record.section_at.Given as goal

abbrev pub invariant-loop-left : goal.invariant-loop-left
invariant-loop-left l = (advance (section_end l.s) l.limit l.left l.p ≡ section_at l.s l.at l.e) × ((l.p ≤ length l.s + 12 + longest_section) × (l.limit ≤ length l.s))

abbrev pub decreases-loop-left : goal.decreases-loop-left
decreases-loop-left l = l.left
