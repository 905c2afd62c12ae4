-- `record::chain::records_end` meets its contract. Assumes nothing.
use Prim.Native.Nat.{◌-◌}
use lib.ListN.{length}
use Rattle.record.specs.Chain.{header_end}
use Rattle.record.proofs.SeekLaws.{Ending}
use Rattle.record.proofs.chain.records_end.Given as goal

abbrev pub invariant-loop-next : goal.invariant-loop-next
invariant-loop-next l = Ending l.s (header_end l.s) l.c.at

abbrev pub decreases-loop-next : goal.decreases-loop-next
decreases-loop-next l = length l.s - l.c.at
