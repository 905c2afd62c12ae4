-- `cells::tile_cells::cell_in` meets its contract. Assumes nothing.
use Rattle.cells.proofs.CellLaws.{cell_packed, cell_whole}
use borrow.Author.Rules.{rules}
use Rattle.cells.proofs.tile_cells.cell_in.Goals as goal

pub returns-then-is_packed : goal.returns-then-is_packed
returns-then-is_packed c = search (rules, cell_packed)

pub returns : goal.returns
returns c = search (rules, cell_whole)
