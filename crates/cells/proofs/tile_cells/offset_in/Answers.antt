-- `cells::tile_cells::offset_in` meets its contract. Assumes nothing.
use native.Mathlib.Omega.{arith}
use Rattle.cells.proofs.CellLaws.{offset_is, inside_small}
use Rattle.cells.proofs.tile_cells.offset_in.Goals as goal

pub overflow_cast-cell_inside : goal.overflow_cast-cell_inside
overflow_cast-cell_inside c = record { fits = omega (arith, c.cell_inside.ensures, inside_small _ c.args.row c.args.column c.requires) }

pub returns : goal.returns
returns c = let all_of = offset_is _ _ _ _ _ _ _ c.requires c.kind_of.ensures c.cell_inside.ensures c.cell_offset.ensures in record { is = all_of.0; near = all_of.1 }
