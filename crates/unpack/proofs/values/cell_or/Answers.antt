-- `unpack::values::cell_or` meets its contract. Assumes nothing.
use Rattle.unpack.proofs.ValueLaws.{cell_before, cell_past, cell_here}
use native.Mathlib.Omega.{arith}
use Rattle.unpack.proofs.values.cell_or.Goals as goal

pub returns-then-inside-at : goal.returns-then-inside-at
returns-then-inside-at c = cell_before _ _ _ _ _ (omega arith)

pub returns-then-row-j : goal.returns-then-row-j
returns-then-row-j c = cell_past _ _ _ _ _ (omega arith) (omega arith)

pub returns : goal.returns
returns c = cell_here _ _ _ _ _ _ (omega arith) (omega arith) c.cell_bits.ensures
