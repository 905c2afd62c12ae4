-- `explain::given::mark_tile` meets its contract. Assumes nothing.
use borrow.Author.Rules.{rules}
use Rattle.explain.proofs.MarkLaws.{marked_more}
use Rattle.explain.proofs.given.mark_tile.Goals as goal

pub returns : goal.returns
returns c = search (rules, marked_more)
