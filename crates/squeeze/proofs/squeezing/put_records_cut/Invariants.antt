-- `squeeze::squeezing::put_records_cut` meets its contract. Assumes nothing.
use Prim.Native.Nat.{◌-◌}
use lib.ListN.{length}
use Rattle.squeeze.proofs.SlideLaws.{Sliding}
use Rattle.squeeze.proofs.squeezing.put_records_cut.Given as goal

abbrev pub invariant-loop-i : goal.invariant-loop-i
invariant-loop-i l = Sliding l.k l.initial.out l.n l.plan l.i l.e l.left l.out

abbrev pub decreases-loop-i : goal.decreases-loop-i
decreases-loop-i l = length l.plan - l.i
