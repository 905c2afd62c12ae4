-- `geometry::tiles::cell_inside` meets its contract. Assumes nothing.
use Rattle.geometry.specs.Tiles.{cell_inside}
use Rattle.geometry.proofs.tiles.cell_inside.Goals as goal

pub returns : goal.returns
unfolding cell_inside
returns c = cc
