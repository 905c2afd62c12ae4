-- `explain::listed::asked_from` meets its contract. Assumes nothing.
use borrow.Author.Rules.{rules}
use Rattle.explain.proofs.ListedLaws.{asked_at, asked_end}
use Rattle.explain.proofs.listed.asked_from.Goals as goal

pub returns-in-Some : goal.returns-in-Some
returns-in-Some c = search (rules, asked_at)

pub returns : goal.returns
returns c = search (rules, asked_end)
