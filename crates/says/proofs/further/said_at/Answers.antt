-- `says::further::said_at` meets its contract. Assumes nothing.
use borrow.Author.Rules.{rules}
use Rattle.says.proofs.FurtherLaws.{said_is}
use Rattle.says.proofs.further.said_at.Goals as goal

pub returns : goal.returns
returns c = search (rules, said_is)
