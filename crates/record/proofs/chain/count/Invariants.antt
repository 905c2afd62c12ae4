-- `record::chain::count` meets its contract. Assumes nothing.
use Rattle.std.proofs.Common.{length, ◌-◌}
use Rattle.record.proofs.TallyLaws.{Tally}
use Rattle.record.proofs.chain.count.Given as goal

abbrev pub invariant-loop-kind : goal.invariant-loop-kind
invariant-loop-kind g l = Tally (g.T.Test.passes l.test l.s) l.s l.c.at l.found

abbrev pub decreases-loop-kind : goal.decreases-loop-kind
decreases-loop-kind g l = length l.s - l.c.at
