-- `m32::read` meets its contract. Assumes nothing.
use Rattle.m32.proofs.ReadLaws.{Reading}
use Rattle.m32.specs.M32.{bytes_next}
use lib.ListN.{length}
use Rattle.m32.proofs.read.Given as goal

abbrev pub invariant-loop-i : goal.invariant-loop-i
invariant-loop-i l = Reading (bytes_next l.bytes) (length l.initial.out) l.initial.out l.out l.i l.at
