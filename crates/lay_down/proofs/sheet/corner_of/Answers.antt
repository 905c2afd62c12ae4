-- `lay_down::sheet::corner_of` meets its contract. Assumes nothing.
use Rattle.lay_down.proofs.FrontLaws.{front_of_lem}
use Rattle.lay_down.proofs.SheetLaws.{corner_small, top_is, left_is}
use native.Mathlib.Omega.{arith}
use Rattle.lay_down.proofs.sheet.corner_of.Goals as goal

pub overflow_mul-result : goal.overflow_mul-result
overflow_mul-result c = let w = front_of_lem _ c.requires.0 in let e = corner_small c.quotient-down.result c.tile_rows.result c.args.tile c.quotient-down.ensures.small c.requires.1 (omega (arith, c.tile_rows.ensures, w.sides.tile_rows_lem.1)) in omega arith

pub overflow_mul-result-2 : goal.overflow_mul-result-2
overflow_mul-result-2 c = let w = front_of_lem _ c.requires.0 in let e = corner_small c.remainder-right.result c.tile_columns.result c.args.tile c.remainder-right.ensures.small c.requires.1 (omega (arith, c.tile_columns.ensures, w.sides.tile_columns_lem.1)) in omega arith

pub returns-clause-row : goal.returns-clause-row
returns-clause-row c = top_is _ _ _ _ _ c.tiles_across-across.ensures c.quotient-down.ensures.is c.tile_rows.ensures

pub returns-clause-column : goal.returns-clause-column
returns-clause-column c = left_is _ _ _ _ _ c.tiles_across-across.ensures c.remainder-right.ensures.is c.tile_columns.ensures
