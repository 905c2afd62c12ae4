-- `check_header::start::check_start` meets its contract. Assumes nothing.
use Rattle.check_header.proofs.StageLaws.{in_order}
use Rattle.check_start.proofs.StartLaws.{given-rules}
use Rattle.check_header.specs.Stages.{first_two}
use Rattle.check_start.specs.Start.{check_start}
use borrow.Author.Rules.{rules}
use Rattle.check_start.proofs.start.check_start.Goals as goal

pub returns-then-length-s : goal.returns-then-length-s
unfolding check_start first_two
returns-then-length-s c = search (rules, given-rules)

pub returns-then-version_right : goal.returns-then-version_right
unfolding check_start first_two
returns-then-version_right c = search (rules, in_order, given-rules)

pub returns-then-is_identified : goal.returns-then-is_identified
unfolding check_start first_two
returns-then-is_identified c = search (rules, in_order, given-rules)

pub returns-then-is_given : goal.returns-then-is_given
unfolding check_start first_two
returns-then-is_given c = search (rules, in_order, given-rules)

pub returns : goal.returns
unfolding check_start first_two
returns c = search (rules, in_order, given-rules)
