-- `cells::tile_cells::bits_at` meets its contract. Assumes nothing.
use Rattle.cells.proofs.CellLaws.{bits_short, bits_other}
use borrow.Author.Rules.{rules}
use Rattle.cells.proofs.tile_cells.bits_at.Goals as goal

pub returns-then-kind-eq-SHORT : goal.returns-then-kind-eq-SHORT
returns-then-kind-eq-SHORT c = search (rules, bits_short)

pub returns : goal.returns
returns c = search (rules, bits_other)
