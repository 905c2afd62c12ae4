-- `correct::directories::put_references_cut` meets its contract. Assumes nothing.
use Rattle.correct.proofs.DirectoryLaws.{Referring}
use Rattle.correct.proofs.directories.put_references_cut.Given as goal

abbrev pub invariant-loop-i : goal.invariant-loop-i
invariant-loop-i l = Referring l.k l.initial.out l.n l.at l.i l.left l.out
