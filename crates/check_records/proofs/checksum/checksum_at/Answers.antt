-- `check_records::checksum::checksum_at` meets its contract. Assumes nothing.
use borrow.Author.Rules.{rules}
use Rattle.check_records.proofs.RecordLaws.{checksum_at_is}
use Rattle.check_records.proofs.checksum.checksum_at.Goals as goal

pub returns : goal.returns
returns c = search (rules, checksum_at_is)
