-- `cells::held::tile_cells_of` meets its contract. Assumes nothing.
use native.Mathlib.Omega.{arith}
use mathlib.Core.Path.{ap₂}
use Prim.Native.Nat.{◌*◌}
use Rattle.geometry.proofs.TileLaws.{product}
use Rattle.cells.proofs.held.tile_cells_of.Goals as goal

pub overflow_mul-result : goal.overflow_mul-result
overflow_mul-result c = let k = product c.tile_rows.result c.tile_columns.result (omega arith) (omega arith) in record { fits = omega arith }

pub returns : goal.returns
returns c = ap₂ ◌*◌ c.tile_rows.ensures c.tile_columns.ensures
