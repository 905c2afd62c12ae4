-- `check_header::start::behind_first_two` meets its contract. Assumes nothing.
use Rattle.check_header.proofs.StageLaws.{in_order}
use borrow.Author.Rules.{rules}
use Rattle.check_start.proofs.start.behind_first_two.Goals as goal

pub returns-then-header_given : goal.returns-then-header_given
returns-then-header_given c = search (rules, in_order)

pub returns-else-header_given : goal.returns-else-header_given
returns-else-header_given c = search (rules, in_order)

pub returns-else-is_given : goal.returns-else-is_given
returns-else-is_given c = search (rules, in_order)
