-- `store::reads::walk_from` meets its contract. Assumes nothing.
use Rattle.store.proofs.OpenedLaws.{walk_is}
use Rattle.store.proofs.reads.walk_from.Goals as goal

pub returns : goal.returns
returns c = walk_is _ _ _ _ c.header_end.ensures c.trust.ensures
