-- `cells::tile_cells::fill_of` meets its contract. Assumes nothing.
use Rattle.cells.proofs.CellLaws.{fill_is}
use borrow.Author.Rules.{rules}
use Rattle.cells.proofs.tile_cells.fill_of.Goals as goal

pub returns : goal.returns
returns c = search (rules, fill_is)
