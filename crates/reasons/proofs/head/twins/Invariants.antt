-- `reasons::head::twins` meets its contract. Assumes nothing.
use mathlib.Core.Path.{◌≡◌}
use Rattle.std.specs.Prelude.{Ok}
use Rattle.reasons.specs.Rows.{first_failing, rows_below}
use Rattle.reasons.specs.HeadRows.{twin_rows}
use Rattle.reasons.proofs.head.twins.Given as goal

abbrev pub invariant-loop-d : goal.invariant-loop-d
invariant-loop-d l = first_failing (rows_below l.d (twin_rows l.s l.e)) ≡ Ok tt
