-- `fronts::sides::tiles_on_side` meets its contract. Assumes nothing.
use Rattle.geometry.specs.Tiles.{tiles_along}
use Rattle.fronts.proofs.sides.tiles_on_side.Goals as goal

pub returns : goal.returns
unfolding tiles_along
returns c = c.quotient.ensures.is
