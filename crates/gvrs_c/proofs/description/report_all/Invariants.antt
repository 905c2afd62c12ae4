-- `gvrs_c::description::report_all` meets its contract. The loop's invariant: the first k numbers are written. Assumes nothing.
use Prim.Native.Nat.{◌-◌}
use lib.ListN.{length}
use Rattle.gvrs_c.proofs.DescriptionLaws.{Written}
use Rattle.gvrs_c.proofs.description.report_all.Given as goal

abbrev pub invariant-loop-k : goal.invariant-loop-k
invariant-loop-k l = Written l.numbers l.initial.out l.k l.out

abbrev pub decreases-loop-k : goal.decreases-loop-k
decreases-loop-k l = length l.numbers - l.k
