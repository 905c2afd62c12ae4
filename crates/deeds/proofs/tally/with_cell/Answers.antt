-- `deeds::tally::with_cell` meets its contract. Assumes nothing.
use Rattle.deeds.proofs.RunLaws.{stored_more, other_more}
use borrow.Author.Rules.{rules}
use Rattle.deeds.proofs.tally.with_cell.Goals as goal

pub returns-then-is_stored : goal.returns-then-is_stored
returns-then-is_stored c = search (rules, stored_more)

pub returns : goal.returns
returns c = search (rules, other_more)
