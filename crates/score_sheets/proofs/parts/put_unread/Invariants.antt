-- `score_sheets::parts::put_unread` meets its contract. Assumes nothing.
use Prim.Native.Nat.{◌-◌, ◌≤◌}
use Rattle.score_sheets.proofs.PartLaws.{Run}
use Rattle.score_sheets.proofs.parts.put_unread.Given as goal

abbrev pub invariant-loop-i : goal.invariant-loop-i
invariant-loop-i l = (l.i ≤ l.n) × Run l.initial.out l.at (λ k. 65535) l.out l.i

abbrev pub decreases-loop-i : goal.decreases-loop-i
decreases-loop-i l = l.n - l.i
