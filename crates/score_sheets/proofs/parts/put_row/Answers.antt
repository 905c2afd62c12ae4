-- `score_sheets::parts::put_row` meets its contract. Assumes nothing.
use mathlib.Core.Path.{refl}
use mathlib.Core.Logic.{inl, inr}
use Rattle.score_sheets.proofs.PartLaws.{row_past, row_cut}
use native.Mathlib.Omega.{arith}
use Rattle.score_sheets.proofs.parts.put_row.Goals as goal

pub returns-then-sheet_rows-row : goal.returns-then-sheet_rows-row
returns-then-sheet_rows-row c = row_past _ _ _ _ _ _ _ _ c.sheet_rows.ensures.is c.sheet_columns-columns.ensures.is _ c.put_unread.ensures (inl c.if-sheet_rows-row.true)

pub returns-then-columns-column : goal.returns-then-columns-column
returns-then-columns-column c = row_past _ _ _ _ _ _ _ _ c.sheet_rows.ensures.is c.sheet_columns-columns.ensures.is _ c.put_unread-then-columns-column.ensures (inr c.if-columns-column.true)

pub returns : goal.returns
returns c = row_cut _ _ _ _ _ _ _ _ c.sheet_rows.ensures.is c.sheet_columns-columns.ensures.is _ _ _ _ (omega arith) (omega arith) c.places_left-wide.ensures refl c.put_run.ensures c.put_unread-2.ensures c.requires
