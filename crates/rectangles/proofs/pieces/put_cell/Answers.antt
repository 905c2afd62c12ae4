-- `rectangles::pieces::put_cell` meets its contract. Assumes nothing.

use Rattle.rectangles.proofs.pieces.put_cell.Goals as goal

pub returns-clause-kinds : goal.returns-clause-kinds
returns-clause-kinds c = rw c.cell_kind.ensures

pub returns-clause-bits : goal.returns-clause-bits
returns-clause-bits c = rw c.cell_bits.ensures
