-- `check_header::header_record::element_right` meets its contract. Assumes nothing.
use Rattle.check_header.proofs.HeaderLaws.{kind_not, name_not, new_not, element_last}
use borrow.Author.Rules.{rules}
use Rattle.check_header.proofs.header_record.element_right.Goals as goal

pub returns-then-x-gt-SHORT : goal.returns-then-x-gt-SHORT
returns-then-x-gt-SHORT c = search (rules, kind_not)

pub returns-then-name_new : goal.returns-then-name_new
returns-then-name_new c = search (rules, element_last)

pub returns-else-name_new : goal.returns-else-name_new
returns-else-name_new c = search (rules, new_not)

pub returns-else-identifier_at : goal.returns-else-identifier_at
returns-else-identifier_at c = search (rules, name_not)
