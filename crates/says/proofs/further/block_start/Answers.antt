-- `says::further::block_start` meets its contract. Assumes nothing.
use borrow.Author.Rules.{rules}
use Rattle.says.proofs.FurtherLaws.{block_is}
use Rattle.says.proofs.further.block_start.Goals as goal

pub returns-clause-is : goal.returns-clause-is
returns-clause-is c = search (rules, block_is)
