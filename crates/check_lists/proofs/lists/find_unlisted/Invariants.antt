-- `check_lists::lists::find_unlisted` meets its contract. Assumes nothing.
use lib.ListN.{length}
use Prim.Native.Nat.{◌-◌}
use Rattle.check_lists.proofs.WindowLaws.{Passed}
use Rattle.check_lists.proofs.lists.find_unlisted.Given as goal

abbrev pub invariant-loop-base : goal.invariant-loop-base
invariant-loop-base l = Passed l.s l.list l.base

abbrev pub decreases-loop-base : goal.decreases-loop-base
decreases-loop-base l = length l.s - l.base
