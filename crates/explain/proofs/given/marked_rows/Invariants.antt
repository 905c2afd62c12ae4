-- `explain::given::marked_rows` meets its contract. Assumes nothing.
use mathlib.Core.Path.{◌≡◌}
use Rattle.std.specs.Prelude.{Ok}
use Rattle.reasons.specs.Rows.{first_failing, rows_below}
use Rattle.explain.specs.DirectoryRows.{given_rows}
use Rattle.explain.proofs.given.marked_rows.Given as goal

abbrev pub invariant-loop-i : goal.invariant-loop-i
invariant-loop-i l = first_failing (rows_below l.i (given_rows l.s)) ≡ Ok tt
