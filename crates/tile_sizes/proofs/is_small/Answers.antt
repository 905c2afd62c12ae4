-- `tile_sizes::is_small` meets its contract. Assumes nothing.
use Rattle.tile_sizes.proofs.SizeLaws.{small_is}
use Rattle.tile_sizes.proofs.is_small.Goals as goal

pub returns : goal.returns
returns c = small_is _ _ c.tile_bytes.ensures
