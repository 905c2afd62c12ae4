-- `geometry::tiles::cell_tile` meets its contract. Assumes nothing.
use Rattle.geometry.specs.Tiles.{cell_tile, tile_in, tiles_across}
use Rattle.geometry.proofs.tiles.cell_tile.Goals as goal

pub returns : goal.returns
unfolding cell_tile tile_in tiles_across
returns c = cc
