-- `explain::records::right_checksum` meets its contract. Assumes nothing.
use borrow.Author.Rules.{rules}
use Rattle.check_records.proofs.RecordLaws.{checksum_on, checksum_off}
use Rattle.record_reasons.proofs.records.right_checksum.Goals as goal

pub returns-then-checksum_enabled-eq1 : goal.returns-then-checksum_enabled-eq1
returns-then-checksum_enabled-eq1 c = search (rules, checksum_on)

pub returns : goal.returns
returns c = search (rules, checksum_off)
