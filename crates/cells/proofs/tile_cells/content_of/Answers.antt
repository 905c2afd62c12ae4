-- `cells::tile_cells::content_of` meets its contract. Assumes nothing.
use Rattle.cells.proofs.CellLaws.{content_taken}
use borrow.Author.Rules.{rules}
use Rattle.cells.proofs.tile_cells.content_of.Goals as goal

pub returns : goal.returns
returns c = search (rules, content_taken)
