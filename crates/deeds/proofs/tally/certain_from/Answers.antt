-- `deeds::tally::certain_from` meets its contract. Assumes nothing.
use Rattle.deeds.proofs.RunLaws.{certain_is}
use borrow.Author.Rules.{rules}
use Rattle.deeds.proofs.tally.certain_from.Goals as goal

pub returns : goal.returns
returns c = search (rules, certain_is)
