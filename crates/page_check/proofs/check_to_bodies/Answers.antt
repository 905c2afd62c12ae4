-- `page_check::check_to_bodies` meets its contract. Assumes nothing.
use borrow.Author.Rules.{rules}
use Rattle.page_check.proofs.StageLaws.{in_order}
use Rattle.page_check.proofs.check_to_bodies.Goals as goal

pub returns-in_err-check_header : goal.returns-in_err-check_header
returns-in_err-check_header c = search (rules, in_order)

pub returns : goal.returns
returns c = search (rules, in_order)
