-- `writable::nothing_to_join` meets its contract. Assumes nothing.
use Prim.Native.Nat.{◌-◌}
use lib.ListN.{length}
use Rattle.writable.proofs.JoinLaws.{Joining}
use Rattle.writable.proofs.nothing_to_join.Given as goal

abbrev pub invariant-loop-kind : goal.invariant-loop-kind
invariant-loop-kind l = Joining l.s l.c.at l.last

abbrev pub decreases-loop-kind : goal.decreases-loop-kind
decreases-loop-kind l = length l.s - l.c.at
