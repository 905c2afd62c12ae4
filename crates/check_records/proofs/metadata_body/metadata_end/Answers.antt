-- `check_records::metadata_body::metadata_end` meets its contract. Assumes nothing.
use Rattle.check_records.proofs.RecordLaws.{metadata_end_is}
use borrow.Author.Rules.{rules}
use Rattle.check_records.proofs.metadata_body.metadata_end.Goals as goal

pub returns : goal.returns
returns c = search (rules, metadata_end_is)
