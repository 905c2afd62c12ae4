-- `m32::writing::put_sevens` meets its contract. Assumes nothing.
use Rattle.m32.proofs.WriteLaws.{Backward}
use Rattle.m32.proofs.writing.put_sevens.Given as goal

abbrev pub invariant-loop-i : goal.invariant-loop-i
invariant-loop-i l = Backward l.initial.out l.at l.k l.v l.out l.i l.w
