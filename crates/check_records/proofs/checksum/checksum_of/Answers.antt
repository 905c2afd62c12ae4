-- `check_records::checksum::checksum_of` meets its contract. Assumes nothing.
use borrow.Author.Rules.{rules}
use Rattle.check_records.proofs.RecordLaws.{checksum_on, checksum_off}
use Rattle.check_records.proofs.checksum.checksum_of.Goals as goal

pub returns-then-checksum_enabled-eq1 : goal.returns-then-checksum_enabled-eq1
returns-then-checksum_enabled-eq1 c = search (rules, checksum_on, checksum_off)

pub returns : goal.returns
returns c = search (rules, checksum_on, checksum_off)
