-- `cells::tile_cells::unpacked_at` meets its contract. Assumes nothing.
use Rattle.cells.proofs.CellLaws.{cell_taken}
use borrow.Author.Rules.{rules}
use Rattle.cells.proofs.tile_cells.unpacked_at.Goals as goal

pub returns : goal.returns
returns c = search (rules, cell_taken)
