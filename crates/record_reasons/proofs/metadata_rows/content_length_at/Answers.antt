-- `explain::metadata_rows::content_length_at` meets its contract. Assumes nothing.
use borrow.Author.Rules.{rules}
use Rattle.record_reasons.proofs.BodyLaws.{content_length_told}
use Rattle.record_reasons.proofs.metadata_rows.content_length_at.Goals as goal

pub returns-clause-is : goal.returns-clause-is
returns-clause-is c = search (rules, content_length_told)
