-- `explain::records::stored_checksum` meets its contract. Assumes nothing.
use borrow.Author.Rules.{rules}
use Rattle.check_records.proofs.RecordLaws.{checksum_at_is}
use Rattle.record_reasons.proofs.records.stored_checksum.Goals as goal

pub returns : goal.returns
returns c = search (rules, checksum_at_is)
