-- `explain::listed::once_from` meets its contract. Assumes nothing.
use borrow.Author.Rules.{rules}
use Rattle.explain.proofs.ListedLaws.{from_before, from_behind}
use Rattle.explain.proofs.listed.once_from.Goals as goal

pub returns-then-at-from : goal.returns-then-at-from
returns-then-at-from c = search (rules, from_before)

pub returns : goal.returns
returns c = search (rules, from_behind)
