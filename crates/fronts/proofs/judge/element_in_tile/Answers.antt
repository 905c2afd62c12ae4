-- `fronts::judge::element_in_tile` meets its contract. Assumes nothing.
use mathlib.Core.Path.{refl}
use native.Mathlib.Omega.{arith}
use Rattle.geometry.proofs.TileLaws.{product}
use Rattle.fronts.proofs.JudgeLaws.{tile_element}
use Rattle.fronts.proofs.judge.element_in_tile.Goals as goal

pub overflow_mul-cells : goal.overflow_mul-cells
overflow_mul-cells c = let k = product c.args.height c.args.width (omega arith) (omega arith) in record { fits = omega arith }

pub overflow_mul-result : goal.overflow_mul-result
overflow_mul-result c = let a = c.args in let m = tile_element a.height a.width a.kind _ _ c.requires.0 c.requires.1 refl c.cell_size.ensures in record { fits = omega (arith, m.1) }

pub returns : goal.returns
returns c = let a = c.args in let all_of = tile_element a.height a.width a.kind _ _ c.requires.0 c.requires.1 refl c.cell_size.ensures in record { is = all_of.0; small = all_of.1 }
