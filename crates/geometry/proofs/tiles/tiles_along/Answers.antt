-- `geometry::tiles::tiles_along` meets its contract. Assumes nothing.
use native.Mathlib.Omega.{arith}
use Rattle.geometry.proofs.TileLaws.{along_zero, along_is, along_small}
use Rattle.geometry.proofs.tiles.tiles_along.Goals as goal

pub returns-then-tile-eq0 : goal.returns-then-tile-eq0
returns-then-tile-eq0 c = along_zero _ _ c.if-tile-eq0.true

pub overflow_cast-result-2 : goal.overflow_cast-result-2
overflow_cast-result-2 c = let k = along_small c.args.side c.args.tile c.if-tile-eq0.false in record { fits = omega arith }

pub returns : goal.returns
returns c = along_is _ _
