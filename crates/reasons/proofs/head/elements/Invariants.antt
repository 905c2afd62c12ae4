-- `reasons::head::elements` meets its contract. Assumes nothing.
use mathlib.Core.Path.{◌≡◌}
use Rattle.std.specs.Prelude.{Ok}
use Rattle.reasons.specs.Rows.{first_failing, rows_below}
use Rattle.reasons.specs.HeadRows.{element_rows}
use Rattle.reasons.proofs.head.elements.Given as goal

abbrev pub invariant-loop-e : goal.invariant-loop-e
invariant-loop-e l = first_failing (rows_below l.e (element_rows l.s)) ≡ Ok tt
