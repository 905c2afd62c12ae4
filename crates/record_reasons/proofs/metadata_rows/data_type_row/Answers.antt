-- `explain::metadata_rows::data_type_row` meets its contract. Assumes nothing.
use borrow.Author.Rules.{rules}
use Rattle.record_reasons.proofs.BodyLaws.{data_type_told}
use Rattle.record_reasons.proofs.metadata_rows.data_type_row.Goals as goal

pub returns : goal.returns
returns c = search (rules, data_type_told)
