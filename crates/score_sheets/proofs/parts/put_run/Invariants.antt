-- `score_sheets::parts::put_run` meets its contract. Assumes nothing.
use Prim.Native.Nat.{◌+◌, ◌-◌, ◌≤◌}
use Rattle.score_sheets.specs.Sheet.{score_at}
use Rattle.score_sheets.proofs.PartLaws.{Run}
use Rattle.score_sheets.proofs.parts.put_run.Given as goal

abbrev pub invariant-loop-i : goal.invariant-loop-i
invariant-loop-i l = (l.i ≤ l.n) × Run l.initial.out l.at (λ k. score_at l.sheet (l.first + k)) l.out l.i

abbrev pub decreases-loop-i : goal.decreases-loop-i
decreases-loop-i l = l.n - l.i
