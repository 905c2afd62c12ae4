-- `explain::whole::explain` meets its contract. Assumes nothing.
use borrow.Author.Rules.{rules}
use Rattle.explain.proofs.JoinLaws.{few_tiles}
use Rattle.explain.proofs.whole.explain.Goals as goal

pub from_chain-requires : goal.from_chain-requires
from_chain-requires c = search (rules, few_tiles)
