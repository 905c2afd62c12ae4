-- `explain::listed::once_if` meets its contract. Assumes nothing.
use borrow.Author.Rules.{rules}
use Rattle.explain.proofs.ListedLaws.{once_yes, once_no}
use Rattle.explain.proofs.listed.once_if.Goals as goal

pub returns-then-is_entry_of-clause-is : goal.returns-then-is_entry_of-clause-is
returns-then-is_entry_of-clause-is c = search (rules, once_yes)

pub returns-clause-is : goal.returns-clause-is
returns-clause-is c = search (rules, once_no)
