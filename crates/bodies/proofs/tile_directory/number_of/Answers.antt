-- `bodies::tile_directory::number_of` meets its contract. Assumes nothing.
use native.Mathlib.Omega.{arith}
use Rattle.geometry.proofs.TileLaws.{product}
use Rattle.bodies.proofs.DirectoryLaws.{number_is}
use Rattle.bodies.proofs.tile_directory.number_of.Goals as goal

pub overflow_mul-result : goal.overflow_mul-result
overflow_mul-result c = let k = product c.less-down.result c.listed_columns.result (omega arith) (omega arith) in record { fits = omega arith }

pub overflow_add-result : goal.overflow_add-result
overflow_add-result c = let k = product c.less-down.result c.listed_columns.result (omega arith) (omega arith) in record { fits = omega arith }

pub returns : goal.returns
returns c = number_is _ _ _ _ _ _ _ _ _ c.first_row.ensures c.first_column.ensures c.listed_columns.ensures c.less-down.ensures.is c.less-right.ensures.is
