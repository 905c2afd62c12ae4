-- `check_header::header_record::elements_right` meets its contract. Assumes nothing.
use Rattle.check_header.proofs.HeaderLaws.{count_not, entries_past, elements_last}
use borrow.Author.Rules.{rules}
use Rattle.check_header.proofs.header_record.elements_right.Goals as goal

pub returns-then-header_limit-entry_start : goal.returns-then-header_limit-entry_start
returns-then-header_limit-entry_start c = search (rules, entries_past)

pub returns-then-is_positive : goal.returns-then-is_positive
returns-then-is_positive c = search (rules, elements_last)

pub returns : goal.returns
returns c = search (rules, count_not)
