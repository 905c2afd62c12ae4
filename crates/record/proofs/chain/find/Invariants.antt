-- `record::chain::find` meets its contract. Assumes nothing.
use Rattle.std.proofs.Common.{length, ◌-◌}
use Rattle.record.proofs.SeekLaws.{Seeking}
use Rattle.record.proofs.chain.find.Given as goal

abbrev pub invariant-loop-kind : goal.invariant-loop-kind
invariant-loop-kind g l = Seeking (g.T.Test.passes l.test l.s) l.s l.from l.c.at

abbrev pub decreases-loop-kind : goal.decreases-loop-kind
decreases-loop-kind g l = length l.s - l.c.at
