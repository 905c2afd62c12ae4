-- `score_sheets::sheet_rows` meets its contract. Assumes nothing.
use Rattle.score_sheets.proofs.SheetLaws.{rows_read}
use Rattle.score_sheets.proofs.sheet_rows.Goals as goal

pub returns-clause-is : goal.returns-clause-is
returns-clause-is c = rows_read _ _ c.u16_at.ensures.is
