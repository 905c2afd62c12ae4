-- `cells::tile_cells::cell_reached` meets its contract. Assumes nothing.
use borrow.Author.Rules.{rules}
use Rattle.cells.proofs.CellLaws.{fill_located, reached_none, reached_at, cell_lost}
use Rattle.cells.proofs.tile_cells.cell_reached.Goals as goal

pub returns-then-x-s : goal.returns-then-x-s
returns-then-x-s c = search (rules, reached_none, reached_at)

pub returns-in-None : goal.returns-in-None
returns-in-None c = reached_none _ _ _ _ _ c.in-None.is (fill_located _ _ _ _ _ _ c.location_of.ensures c.fill_of.ensures)

pub returns-else-x-s : goal.returns-else-x-s
returns-else-x-s c = search (rules, reached_none, reached_at, cell_lost)
