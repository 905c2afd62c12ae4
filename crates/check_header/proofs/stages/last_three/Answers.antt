-- `check_header::stages::last_three` meets its contract. Assumes nothing.
use Rattle.check_header.specs.Stages.{next_two}
use Rattle.check_header.proofs.StageLaws.{in_order}
use borrow.Author.Rules.{rules}
use Rattle.check_header.proofs.stages.last_three.Goals as goal

pub returns-then-time_opened-eq0 : goal.returns-then-time_opened-eq0
unfolding next_two
returns-then-time_opened-eq0 c = search (rules, in_order)

pub returns-then-within_ceilings : goal.returns-then-within_ceilings
unfolding next_two
returns-then-within_ceilings c = search (rules, in_order)

pub returns-then-header_right : goal.returns-then-header_right
unfolding next_two
returns-then-header_right c = search (rules, in_order)

pub returns : goal.returns
unfolding next_two
returns c = search (rules, in_order)
