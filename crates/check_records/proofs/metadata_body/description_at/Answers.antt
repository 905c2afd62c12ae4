-- `check_records::metadata_body::description_at` meets its contract. Assumes nothing.
use Rattle.check_records.proofs.RecordLaws.{description_is}
use borrow.Author.Rules.{rules}
use Rattle.check_records.proofs.metadata_body.description_at.Goals as goal

pub returns-clause-is : goal.returns-clause-is
returns-clause-is c = search (rules, description_is)
