-- `cells::lookups::sides_lawful` meets its contract. Assumes nothing.
use borrow.Author.Rules.{rules}
use Rattle.cells.proofs.CellLaws.{sides_is, sides_not}
use Rattle.cells.proofs.lookups.sides_lawful.Goals as goal

pub returns-then-sides_right : goal.returns-then-sides_right
returns-then-sides_right c = search (rules, sides_is, sides_not)

pub returns : goal.returns
returns c = search (rules, sides_is, sides_not)
