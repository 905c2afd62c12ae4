-- `says::further::coded_at` meets its contract. Assumes nothing.
use borrow.Author.Rules.{rules}
use Rattle.says.proofs.FurtherLaws.{coded_are}
use Rattle.says.proofs.further.coded_at.Goals as goal

pub returns : goal.returns
returns c = search (rules, coded_are)
