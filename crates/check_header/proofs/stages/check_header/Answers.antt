-- `check_header::stages::check_header` meets its contract. Assumes nothing.
use Rattle.check_header.specs.Stages.{first_two, stages, check_header}
use Rattle.check_header.proofs.StageLaws.{in_order}
use borrow.Author.Rules.{rules}
use Rattle.check_header.proofs.stages.check_header.Goals as goal

pub returns-then-version_right : goal.returns-then-version_right
unfolding check_header stages first_two
returns-then-version_right c = search (rules, in_order)

pub returns-then-is_identified : goal.returns-then-is_identified
unfolding check_header stages first_two
returns-then-is_identified c = search (rules, in_order)

pub returns : goal.returns
unfolding check_header stages first_two
returns c = search (rules, in_order)
