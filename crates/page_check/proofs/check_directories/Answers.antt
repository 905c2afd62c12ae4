-- `page_check::check_directories` meets its contract. Assumes nothing.
use borrow.Author.Rules.{rules}
use Rattle.page_check.proofs.StageLaws.{in_order}
use Rattle.page_check.proofs.check_directories.Goals as goal

pub returns-then-directories_right : goal.returns-then-directories_right
returns-then-directories_right c = search (rules, in_order)

pub returns : goal.returns
returns c = search (rules, in_order)
