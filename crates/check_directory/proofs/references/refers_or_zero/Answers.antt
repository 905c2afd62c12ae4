-- `check_directory::references::refers_or_zero` meets its contract. Assumes nothing.
use Rattle.check_directory.proofs.SearchLaws.{zero_yes, zero_or}
use borrow.Author.Rules.{rules}
use Rattle.check_directory.proofs.references.refers_or_zero.Goals as goal

pub returns-then-reference-eq0 : goal.returns-then-reference-eq0
returns-then-reference-eq0 c = search (rules, zero_yes)

pub returns : goal.returns
returns c = search (rules, zero_or)
