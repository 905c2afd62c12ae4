-- `cells::tile_cells::place_in` meets its contract. Assumes nothing.
use Rattle.cells.proofs.CellLaws.{place_is}
use Rattle.cells.proofs.tile_cells.place_in.Goals as goal

pub returns : goal.returns
returns c = place_is _ _ _ _ _ _ _ c.section-at.ensures.is c.offset_in.ensures.is
