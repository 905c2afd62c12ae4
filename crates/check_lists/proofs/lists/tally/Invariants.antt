-- `check_lists::lists::tally` meets its contract. Assumes nothing.
use Rattle.check_lists.proofs.WindowLaws.{Tallying}
use Rattle.check_lists.proofs.lists.tally.Given as goal

abbrev pub invariant-loop-k : goal.invariant-loop-k
invariant-loop-k l = Tallying l.s l.list l.base l.initial.counts l.n l.p l.k l.counts
