-- `reasons::head::behind_entries` meets its contract. Assumes nothing.
use Rattle.reasons.proofs.HeadLaws.{behind_many, behind_few}
use borrow.Author.Rules.{rules}
use Rattle.reasons.proofs.head.behind_entries.Goals as goal

pub returns-then-element_count-gt-MOST_ELEMENTS : goal.returns-then-element_count-gt-MOST_ELEMENTS
returns-then-element_count-gt-MOST_ELEMENTS c = search (rules, behind_many)

pub returns : goal.returns
returns c = search (rules, behind_few)
