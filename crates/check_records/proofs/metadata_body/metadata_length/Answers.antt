-- `check_records::metadata_body::metadata_length` meets its contract. Assumes nothing.
use Rattle.check_records.proofs.RecordLaws.{metadata_length_is}
use borrow.Author.Rules.{rules}
use Rattle.check_records.proofs.metadata_body.metadata_length.Goals as goal

pub returns : goal.returns
returns c = search (rules, metadata_length_is)
