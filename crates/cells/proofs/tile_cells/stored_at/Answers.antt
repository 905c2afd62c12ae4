-- `cells::tile_cells::stored_at` meets its contract. Assumes nothing.
use Rattle.cells.proofs.CellLaws.{stored_is}
use borrow.Author.Rules.{rules}
use Rattle.cells.proofs.tile_cells.stored_at.Goals as goal

pub returns : goal.returns
returns c = search (rules, stored_is)
