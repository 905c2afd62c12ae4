-- `check_header::header_record::tail_right` meets its contract. Assumes nothing.
use Rattle.check_header.proofs.HeaderLaws.{tail_many, tail_methods, tail_past, tail_loose, tail_fits}
use borrow.Author.Rules.{rules}
use Rattle.check_header.proofs.header_record.tail_right.Goals as goal

pub returns-then-element_count-gt-MOST_ELEMENTS : goal.returns-then-element_count-gt-MOST_ELEMENTS
returns-then-element_count-gt-MOST_ELEMENTS c = search (rules, tail_many)

pub returns-then-method_count-gt-LARGEST_INTEGER : goal.returns-then-method_count-gt-LARGEST_INTEGER
returns-then-method_count-gt-LARGEST_INTEGER c = search (rules, tail_methods)

pub returns-then-limit-end : goal.returns-then-limit-end
returns-then-limit-end c = search (rules, tail_past)

pub returns-then-limit-end-gt7 : goal.returns-then-limit-end-gt7
returns-then-limit-end-gt7 c = search (rules, tail_loose)

pub returns : goal.returns
returns c = search (rules, tail_fits)
