-- `says::tiles::tile_item` meets its contract. Assumes nothing.
use Rattle.says.proofs.TileLaws.{tile_item}
use Rattle.says.proofs.tiles.tile_item.Goals as goal

pub returns : goal.returns
returns c = tile_item _ _ _ _ _ _ c.tile_reference.ensures c.record_of-x.ensures c.packed_mask-mask.ensures c.compressor_of-index.ensures
