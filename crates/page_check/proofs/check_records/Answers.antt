-- `page_check::check_records` meets its contract. Assumes nothing.
use borrow.Author.Rules.{rules}
use Rattle.page_check.proofs.StageLaws.{in_order}
use Rattle.page_check.proofs.check_records.Goals as goal

pub returns-in-Some : goal.returns-in-Some
returns-in-Some c = search (rules, in_order)

pub returns-in-Some-checksum_fault : goal.returns-in-Some-checksum_fault
returns-in-Some-checksum_fault c = search (rules, in_order)

pub returns-in-Some-body_fault : goal.returns-in-Some-body_fault
returns-in-Some-body_fault c = search (rules, in_order)

pub returns : goal.returns
returns c = search (rules, in_order)
