-- `explain::metadata_rows::metadata_ending` meets its contract. Assumes nothing.
use borrow.Author.Rules.{rules}
use Rattle.record_reasons.proofs.BodyLaws.{fields_end_told}
use Rattle.record_reasons.proofs.metadata_rows.metadata_ending.Goals as goal

pub returns : goal.returns
returns c = search (rules, fields_end_told)
