-- `explain::metadata_rows::description_from` meets its contract. Assumes nothing.
use borrow.Author.Rules.{rules}
use Rattle.record_reasons.proofs.BodyLaws.{description_from_told}
use Rattle.record_reasons.proofs.metadata_rows.description_from.Goals as goal

pub returns-clause-is : goal.returns-clause-is
returns-clause-is c = search (rules, description_from_told)
