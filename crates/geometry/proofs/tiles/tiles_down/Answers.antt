-- `geometry::tiles::tiles_down` meets its contract. Assumes nothing.
use Rattle.geometry.specs.Tiles.{tiles_down}
use Rattle.geometry.proofs.tiles.tiles_down.Goals as goal

pub returns : goal.returns
unfolding tiles_down
returns c = cc
