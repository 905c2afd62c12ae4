-- `record_reasons::tile_rows::sections` meets its contract. Assumes nothing.
use mathlib.Core.Path.{◌≡◌}
use Rattle.std.specs.Prelude.{Ok}
use Rattle.reasons.specs.Rows.{first_failing, rows_below}
use Rattle.record_reasons.specs.RecordRows.{section_rows}
use Rattle.record_reasons.proofs.tile_rows.sections.Given as goal

abbrev pub invariant-loop-e : goal.invariant-loop-e
invariant-loop-e l = first_failing (rows_below l.e (section_rows l.s l.at)) ≡ Ok tt
