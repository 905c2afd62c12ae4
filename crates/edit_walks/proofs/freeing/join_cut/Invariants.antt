-- `edit_walks::freeing::join_cut` meets its contract. Assumes nothing.
use Prim.Native.Nat.{◌-◌}
use lib.ListN.{length}
use Rattle.correct.specs.Front.{page_in}
use Rattle.edit_walks.proofs.JoinLaws.{Walking}
use Rattle.edit_walks.proofs.freeing.join_cut.Given as goal

abbrev pub invariant-loop-kind : goal.invariant-loop-kind
invariant-loop-kind l = Walking l.k l.initial.out l.n l.flag l.want l.at l.c.at l.from l.due l.left l.out

abbrev pub decreases-loop-kind : goal.decreases-loop-kind
decreases-loop-kind l = length (page_in l.initial.out l.n) - l.c.at
