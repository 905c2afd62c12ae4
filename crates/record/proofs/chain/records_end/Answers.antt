-- `record::chain::records_end` meets its contract. Assumes nothing.
use borrow.Author.Rules.{rules}
use Rattle.record.specs.Chain.{records_end, records}
use Rattle.record.proofs.SeekLaws.{ending, ending_begin}
use Rattle.record.proofs.chain.records_end.Goals as goal

pub loop-next-init : goal.loop-next-init
unfolding records_end records
loop-next-init c = rw c.header_end.ensures (ending_begin _ _)

pub returns-in_default : goal.returns-in_default
unfolding records_end records
returns-in_default c = search (rules, ending)

pub loop-next-smaller : goal.loop-next-smaller
unfolding records_end records
loop-next-smaller c = search (rules, ending)

pub loop-next-preserved : goal.loop-next-preserved
unfolding records_end records
loop-next-preserved c = search (rules, ending)
