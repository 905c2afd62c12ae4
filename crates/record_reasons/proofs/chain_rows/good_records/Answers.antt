-- `record_reasons::chain_rows::good_records` meets its contract. Assumes nothing.
use mathlib.Core.Path.{ap, ◌∙◌}
use lib.ListN.{length}
use Rattle.record.specs.Chain.{records}
use Rattle.record_reasons.proofs.ChainRowLaws.{select_each}
use Rattle.record_reasons.proofs.chain_rows.good_records.Goals as goal

pub returns : goal.returns
returns c = c.count.ensures ∙ ap length (select_each (records c.args.s.now))
