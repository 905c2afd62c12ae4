-- `check_lists::lists::listed_once` meets its contract. Assumes nothing.
use Prim.Native.Nat.{◌-◌}
use lib.ListN.{length}
use Rattle.check_lists.proofs.WindowLaws.{Passed}
use Rattle.check_lists.proofs.lists.listed_once.Given as goal

abbrev pub invariant-loop-base : goal.invariant-loop-base
invariant-loop-base l = Passed l.s l.list l.base

abbrev pub decreases-loop-base : goal.decreases-loop-base
decreases-loop-base l = length l.s - l.base
