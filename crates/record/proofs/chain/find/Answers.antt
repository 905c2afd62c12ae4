-- `record::chain::find` meets its contract. Assumes nothing.
use Rattle.std.proofs.Common.{rules}
use Rattle.record.proofs.SeekLaws.{seek_inside, seek_told, seek_next, seek_found, seek_over}
use Rattle.record.proofs.ChainLaws.{less}
use Rattle.record.proofs.TallyLaws.{tag_other}
use Rattle.record.proofs.chain.find.Goals as goal

pub returns-in_default : goal.returns-in_default
returns-in_default g c = seek_over c.loop-kind.invariant c.step.ensures (tag_other _ c.in_default.not-Record)

pub invariant_of-seen : goal.invariant_of-seen
invariant_of-seen g c = record {
  inside = seek_inside _ _ _ _ _ _ _ c.in-Record.is c.step.ensures;
  is = seek_told _ _ _ _ _ _ _ c.in-Record.is c.step.ensures;
}

pub returns-then-test : goal.returns-then-test
returns-then-test g c = seek_found c.loop-kind.invariant c.in-Record.is c.step.ensures c.test.ensures c.if-test.true

pub loop-kind-smaller : goal.loop-kind-smaller
loop-kind-smaller g c = search (rules, less)

pub loop-kind-preserved : goal.loop-kind-preserved
loop-kind-preserved g c = seek_next c.loop-kind.invariant c.in-Record.is c.step.ensures c.test.ensures c.if-test.false
