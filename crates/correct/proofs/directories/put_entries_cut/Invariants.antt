-- `correct::directories::put_entries_cut` meets its contract. Assumes nothing.
use Prim.Native.Nat.{◌-◌}
use lib.ListN.{length}
use Rattle.correct.specs.Front.{page_in}
use Rattle.correct.proofs.ListLaws.{Listing}
use Rattle.correct.proofs.directories.put_entries_cut.Given as goal

abbrev pub invariant-loop-kind : goal.invariant-loop-kind
invariant-loop-kind l = Listing l.k l.initial.out l.n l.c.at l.at l.left l.out

abbrev pub decreases-loop-kind : goal.decreases-loop-kind
decreases-loop-kind l = length (page_in l.initial.out l.n) - l.c.at
