-- `cells::tile_cells::content_reached` meets its contract. Assumes nothing.
use borrow.Author.Rules.{rules}
use Rattle.cells.proofs.CellLaws.{reached_none, reached_at, content_lost}
use Rattle.cells.proofs.tile_cells.content_reached.Goals as goal

pub returns-then-x-s : goal.returns-then-x-s
returns-then-x-s c = search (rules, reached_none, reached_at)

pub returns-in-None : goal.returns-in-None
returns-in-None c = search (rules, reached_none, reached_at)

pub returns-else-x-s : goal.returns-else-x-s
returns-else-x-s c = search (rules, reached_none, reached_at, content_lost)
