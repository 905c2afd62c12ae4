-- `reasons::places::label_of` meets its contract. Assumes nothing.
use borrow.Author.Rules.{rules}
use Rattle.reasons.proofs.PlaceLaws.{label_of_is}
use Rattle.reasons.proofs.places.label_of.Goals as goal

pub returns-clause-is : goal.returns-clause-is
returns-clause-is c = search (rules, label_of_is)
