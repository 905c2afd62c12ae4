-- `score_sheets::sheet_columns` meets its contract. Assumes nothing.
use Rattle.score_sheets.proofs.SheetLaws.{columns_read}
use Rattle.score_sheets.proofs.sheet_columns.Goals as goal

pub returns-clause-is : goal.returns-clause-is
returns-clause-is c = columns_read _ _ c.u16_at.ensures.is
