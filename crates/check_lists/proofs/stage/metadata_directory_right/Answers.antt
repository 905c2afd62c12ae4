-- `check_lists::stage::metadata_directory_right` meets its contract. Assumes nothing.
use Rattle.check_lists.proofs.StageLaws.{metadata_reference_lem, metadata_other, metadata_list, metadata_is}
use borrow.Author.Rules.{rules}
use Rattle.check_lists.proofs.stage.metadata_directory_right.Goals as goal

pub returns-then-not-refers_or_zero : goal.returns-then-not-refers_or_zero
returns-then-not-refers_or_zero c = search (rules, metadata_reference_lem)

pub returns-then-not-no_other : goal.returns-then-not-no_other
returns-then-not-no_other c = search (rules, metadata_other)

pub returns-then-list_right : goal.returns-then-list_right
returns-then-list_right c = search (rules, metadata_is)

pub returns : goal.returns
returns c = search (rules, metadata_list)
