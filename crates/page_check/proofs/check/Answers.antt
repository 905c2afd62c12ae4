-- `page_check::check` meets its contract. Assumes nothing.
use borrow.Author.Rules.{rules}
use Rattle.page_check.proofs.StageLaws.{in_order}
use Rattle.page_check.specs.Stages.{check}
use Rattle.page_check.proofs.check.Goals as goal

pub returns-in_err-check_to_bodies : goal.returns-in_err-check_to_bodies
unfolding check
returns-in_err-check_to_bodies c = search (rules, in_order)

pub returns : goal.returns
returns c = search (rules, in_order)
