-- `explain::given::given_tiles` meets its contract. Assumes nothing.
use borrow.Author.Rules.{rules}
use Rattle.explain.proofs.MarkLaws.{marked_none}
use Rattle.explain.proofs.given.given_tiles.Goals as goal

pub mark_tiles-requires : goal.mark_tiles-requires
mark_tiles-requires c = search (rules, marked_none)
