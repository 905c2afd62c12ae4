-- `record::chain::record_count` meets its contract. Assumes nothing.
use Rattle.record.specs.Chain.{records_of}
use Rattle.record.proofs.chain.record_count.Goals as goal

pub returns : goal.returns
unfolding records_of
returns c = c.count.ensures
