-- `check_lists::lists::is_not_once` meets its contract. Assumes nothing.
use Rattle.check_lists.proofs.WindowLaws.{not_once_type, not_once_yes, not_once_before, not_once_past, not_once_once}
use borrow.Author.Rules.{rules}
use Rattle.check_lists.proofs.lists.is_not_once.Goals as goal

pub returns-then-kind-listed_kind : goal.returns-then-kind-listed_kind
returns-then-kind-listed_kind c = search (rules, not_once_type)

pub returns-then-at-base : goal.returns-then-at-base
returns-then-at-base c = search (rules, not_once_before)

pub returns-then-counts-j-eq1 : goal.returns-then-counts-j-eq1
returns-then-counts-j-eq1 c = search (rules, not_once_once)

pub returns-then-j-counts : goal.returns-then-j-counts
returns-then-j-counts c = search (rules, not_once_yes)

pub returns : goal.returns
returns c = search (rules, not_once_past)
