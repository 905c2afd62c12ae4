-- `page_check::check_from_records` meets its contract. Assumes nothing.
use borrow.Author.Rules.{rules}
use Rattle.page_check.proofs.StageLaws.{in_order}
use Rattle.page_check.proofs.check_from_records.Goals as goal

pub returns-in_err-check_records : goal.returns-in_err-check_records
returns-in_err-check_records c = search (rules, in_order)

pub returns : goal.returns
returns c = search (rules, in_order)
