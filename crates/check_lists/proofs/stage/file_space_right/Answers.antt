-- `check_lists::stage::file_space_right` meets its contract. Assumes nothing.
use Rattle.check_lists.proofs.StageLaws.{space_reference, space_other, space_is}
use borrow.Author.Rules.{rules}
use Rattle.check_lists.proofs.stage.file_space_right.Goals as goal

pub returns-then-not-refers_or_zero : goal.returns-then-not-refers_or_zero
returns-then-not-refers_or_zero c = search (rules, space_reference)

pub returns-then-not-no_other : goal.returns-then-not-no_other
returns-then-not-no_other c = search (rules, space_other)

pub returns : goal.returns
returns c = search (rules, space_is)
