-- `cells::tile_cells::packed_cell` meets its contract. Assumes nothing.
use Rattle.cells.proofs.CellLaws.{still_packed, cell_malformed, cell_unpacked}
use borrow.Author.Rules.{rules}
use Rattle.cells.proofs.tile_cells.packed_cell.Goals as goal

pub returns-in-Some : goal.returns-in-Some
returns-in-Some c = search (rules, cell_unpacked)

pub returns-in-None : goal.returns-in-None
returns-in-None c = search (rules, cell_malformed)

pub returns : goal.returns
returns c = search (rules, still_packed)
