-- `cells::tile_cells::location_of` meets its contract. Assumes nothing.
use Rattle.cells.proofs.CellLaws.{location_is}
use Rattle.cells.proofs.tile_cells.location_of.Goals as goal

pub returns : goal.returns
returns c = location_is _ _ _ _ _ c.cell_tile-tile.ensures c.cell_inside-inside.ensures
