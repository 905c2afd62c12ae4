-- `check_records::faults::keeps` meets its contract. Assumes nothing.
use borrow.Author.Rules.{rules}
use Rattle.check_records.proofs.RecordLaws.{keeps_checksum, keeps_body}
use Rattle.check_records.proofs.faults.keeps.Goals as goal

pub returns-in-Checksum : goal.returns-in-Checksum
returns-in-Checksum c = search (rules, keeps_checksum, keeps_body)

pub returns-in-Body : goal.returns-in-Body
returns-in-Body c = search (rules, keeps_checksum, keeps_body)
