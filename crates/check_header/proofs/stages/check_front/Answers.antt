-- `check_header::stages::check_front` meets its contract. Assumes nothing.
use Rattle.check_header.specs.Stages.{first_two, next_two, stages, check_front}
use Rattle.check_header.proofs.StageLaws.{in_order}
use borrow.Author.Rules.{rules}
use Rattle.check_header.proofs.stages.check_front.Goals as goal

pub returns-then-within_ceilings : goal.returns-then-within_ceilings
unfolding check_front stages first_two next_two
returns-then-within_ceilings c = search (rules, in_order)

pub returns-then-front_right : goal.returns-then-front_right
unfolding check_front stages first_two next_two
returns-then-front_right c = search (rules, in_order)

pub returns-then-version_right : goal.returns-then-version_right
unfolding check_front stages first_two next_two
returns-then-version_right c = search (rules, in_order)

pub returns-then-is_identified : goal.returns-then-is_identified
unfolding check_front stages first_two next_two
returns-then-is_identified c = search (rules, in_order)

pub returns : goal.returns
unfolding check_front stages first_two next_two
returns c = search (rules, in_order)
