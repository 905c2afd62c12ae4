-- `plans::checking::check_plan` meets its contract. Assumes nothing.
use Prim.Native.Nat.{◌-◌}
use lib.ListN.{length}
use Rattle.plans.proofs.CheckLaws.{Judging}
use Rattle.plans.proofs.checking.check_plan.Given as goal

abbrev pub invariant-loop-k : goal.invariant-loop-k
invariant-loop-k l = Judging l.s l.plan l.at l.e l.k

abbrev pub decreases-loop-k : goal.decreases-loop-k
decreases-loop-k l = length l.plan - l.k
