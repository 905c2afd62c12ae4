-- `check_records::faults::checksum_fault` meets its contract. Assumes nothing.
use borrow.Author.Rules.{rules}
use Rattle.check_records.proofs.RecordLaws.{header_wrong, header_right_lem}
use Rattle.check_records.proofs.faults.checksum_fault.Goals as goal

pub returns-then-keeps : goal.returns-then-keeps
returns-then-keeps c = search (rules, header_wrong, header_right_lem)

pub returns : goal.returns
returns c = search (rules, header_wrong, header_right_lem)
