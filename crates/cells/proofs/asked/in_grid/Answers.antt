-- `cells::asked::in_grid` meets its contract. Assumes nothing.
use mathlib.Core.Path.{refl}
use Rattle.wire.proofs.TestLaws.{not_both}
use native.Mathlib.Omega.{arith}
use Rattle.cells.proofs.CellLaws.{row_out, column_out, element_out, grid_in}
use Rattle.cells.proofs.asked.in_grid.Goals as goal

pub returns-then-grid_rows-row-clause-is : goal.returns-then-grid_rows-row-clause-is
returns-then-grid_rows-row-clause-is c = row_out _ _ _ _ _ c.grid_rows.ensures (omega arith)

pub returns-then-grid_rows-row-clause-small : goal.returns-then-grid_rows-row-clause-small
returns-then-grid_rows-row-clause-small c = (λ z. not_both z refl)

pub returns-then-grid_columns-column-clause-is : goal.returns-then-grid_columns-column-clause-is
returns-then-grid_columns-column-clause-is c = column_out _ _ _ _ _ c.grid_columns.ensures (omega arith)

pub returns-then-grid_columns-column-clause-small : goal.returns-then-grid_columns-column-clause-small
returns-then-grid_columns-column-clause-small c = (λ z. not_both z refl)

pub returns-then-element_count-e-clause-is : goal.returns-then-element_count-e-clause-is
returns-then-element_count-e-clause-is c = element_out _ _ _ _ _ c.element_count.ensures (omega arith)

pub returns-then-element_count-e-clause-small : goal.returns-then-element_count-e-clause-small
returns-then-element_count-e-clause-small c = (λ z. not_both z refl)

pub returns-clause-is : goal.returns-clause-is
returns-clause-is c = grid_in _ _ _ _ _ _ _ c.grid_rows.ensures c.grid_columns.ensures c.element_count.ensures (omega arith) (omega arith) (omega arith)

pub returns-clause-small : goal.returns-clause-small
returns-clause-small c = (λ z. (omega arith, (omega arith, omega arith)))
