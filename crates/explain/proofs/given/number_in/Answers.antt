-- `explain::given::number_in` meets its contract. Assumes nothing.
use native.Mathlib.Omega.{arith}
use Rattle.geometry.proofs.TileLaws.{product}
use Rattle.explain.proofs.GivenLaws.{number_told}
use Rattle.explain.proofs.given.number_in.Goals as goal

pub overflow_mul-result : goal.overflow_mul-result
overflow_mul-result c = let k = product c.surplus-down.result c.listed_columns.result (omega (arith, c.surplus-down.ensures.small, c.quotient-row.ensures.small)) (omega arith) in record { fits = omega arith }

pub overflow_add-result : goal.overflow_add-result
overflow_add-result c = let k = product c.surplus-down.result c.listed_columns.result (omega (arith, c.surplus-down.ensures.small, c.quotient-row.ensures.small)) (omega arith) in record { fits = omega (arith, c.surplus-right.ensures.small, c.remainder-column.ensures.small) }

pub returns : goal.returns
returns c = number_told _ _ _ _ _ _ _ _ _ _ _ c.tile_directory_at-at.ensures c.tiles_across-across.ensures c.quotient-row.ensures.is c.remainder-column.ensures.is c.first_row.ensures c.surplus-down.ensures.is c.first_column.ensures c.surplus-right.ensures.is c.listed_columns.ensures
