-- `plans::kept::next_kept` meets its contract. Assumes nothing.
use Prim.Native.Nat.{◌-◌}
use lib.ListN.{length}
use Rattle.record.proofs.SeekLaws.{Seeking}
use Rattle.correct.specs.Plan.{is_kept}
use Rattle.plans.proofs.kept.next_kept.Given as goal

abbrev pub invariant-loop-kind : goal.invariant-loop-kind
invariant-loop-kind l = Seeking (is_kept l.s) l.s l.at l.c.at

abbrev pub decreases-loop-kind : goal.decreases-loop-kind
decreases-loop-kind l = length l.s - l.c.at
