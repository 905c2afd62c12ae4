-- `store::reads::through_directory` meets its contract. Assumes nothing.
use Rattle.store.proofs.OpenedLaws.{through_is}
use Rattle.store.proofs.reads.through_directory.Goals as goal

pub returns : goal.returns
returns c = through_is _ _ _ _ _ c.tile_directory_reference.ensures c.trust.ensures c.record_of.ensures
