-- `geometry::tiles::tiles_across` meets its contract. Assumes nothing.
use Rattle.geometry.specs.Tiles.{tiles_across}
use Rattle.geometry.proofs.tiles.tiles_across.Goals as goal

pub returns : goal.returns
unfolding tiles_across
returns c = cc
