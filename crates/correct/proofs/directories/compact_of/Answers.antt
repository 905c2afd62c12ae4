-- `correct::directories::compact_of` meets its contract. Assumes nothing.
use Rattle.correct.proofs.DirectoryLaws.{compact_is}
use Rattle.correct.proofs.directories.compact_of.Goals as goal

pub returns : goal.returns
returns c = compact_is _ _ _ c.tile_reference.ensures
