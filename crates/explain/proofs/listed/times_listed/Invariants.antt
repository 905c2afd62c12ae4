-- `explain::listed::times_listed` meets its contract. Assumes nothing.
use Prim.Native.Nat.{◌≤◌, ◌-◌}
use Rattle.explain.proofs.ListedLaws.{Timing}
use Rattle.explain.proofs.listed.times_listed.Given as goal

abbrev pub invariant-loop-k : goal.invariant-loop-k
invariant-loop-k l = (l.found ≤ l.k) × ((l.k ≤ l.n) × Timing l.s l.list l.x l.p l.k l.found)

abbrev pub decreases-loop-k : goal.decreases-loop-k
decreases-loop-k l = l.n - l.k
