-- `fronts::sides::Sides::tiles` meets its contract. Assumes nothing.
use native.Mathlib.Omega.{arith}
use Rattle.geometry.proofs.TileLaws.{product}
use Rattle.fronts.proofs.JudgeLaws.{sides_in, tiles_are}
use Rattle.fronts.proofs.sides.Sides.tiles.Goals as goal

pub tiles_on_side-down-requires : goal.tiles_on_side-down-requires
tiles_on_side-down-requires c = let s = sides_in _ _ _ _ c.requires.0 c.requires.1 in (s.1.0, (s.0.0, s.1.1.1.0))

pub tiles_on_side-across-requires : goal.tiles_on_side-across-requires
tiles_on_side-across-requires c = let s = sides_in _ _ _ _ c.requires.0 c.requires.1 in (s.1.1.0, (s.0.1, s.1.1.1.1))

pub overflow_mul-result : goal.overflow_mul-result
overflow_mul-result c = let k = product c.tiles_on_side-down.result c.tiles_on_side-across.result (omega arith) (omega arith) in record { fits = omega arith }

pub returns : goal.returns
returns c = tiles_are _ _ _ _ _ _ c.tiles_on_side-down.ensures c.tiles_on_side-across.ensures
