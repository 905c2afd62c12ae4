-- `score_sheets::parts::put_rows` meets its contract. Assumes nothing.
use Prim.Native.Nat.{◌-◌, ◌≤◌}
use Rattle.score_sheets.proofs.PartLaws.{Rows}
use Rattle.score_sheets.proofs.parts.put_rows.Given as goal

abbrev pub invariant-loop-r : goal.invariant-loop-r
invariant-loop-r l = (l.r ≤ l.m) × Rows l.initial.out l.at l.sheet l.row l.column l.n l.out l.p l.r

abbrev pub decreases-loop-r : goal.decreases-loop-r
decreases-loop-r l = l.m - l.r
