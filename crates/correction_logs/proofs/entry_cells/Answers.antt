-- `correction_logs::entry_cells` meets its contract. Assumes nothing.
use native.Mathlib.Omega.{arith}
use Rattle.correction_logs.proofs.LogLaws.{cells_are, cells_out}
use Rattle.correction_logs.proofs.entry_cells.Goals as goal

pub returns-then-at-log : goal.returns-then-at-log
returns-then-at-log c = cells_are _ _ _ c.part_of.ensures.holds

pub returns : goal.returns
returns c = cells_out _ _ _ (omega arith)
