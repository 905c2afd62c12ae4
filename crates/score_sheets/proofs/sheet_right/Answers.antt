-- `score_sheets::sheet_right` meets its contract. Assumes nothing.
use Rattle.score_sheets.proofs.SheetLaws.{right_head, right_rows, right_columns, right_length, right_scores}
use Rattle.score_sheets.proofs.sheet_right.Goals as goal

pub returns-then-rows-eq0 : goal.returns-then-rows-eq0
returns-then-rows-eq0 c = right_rows _ _ c.head_right.ensures c.if-head_right.true _ _ c.sheet_rows-rows.ensures.is c.sheet_columns-columns.ensures.is c.if-rows-eq0.true

pub returns-then-columns-eq0 : goal.returns-then-columns-eq0
returns-then-columns-eq0 c = right_columns _ _ c.head_right.ensures c.if-head_right.true _ _ c.sheet_rows-rows.ensures.is c.sheet_columns-columns.ensures.is c.if-columns-eq0.true

pub returns-then-n-sheet : goal.returns-then-n-sheet
returns-then-n-sheet c = right_length _ _ c.head_right.ensures c.if-head_right.true _ _ c.sheet_rows-rows.ensures.is c.sheet_columns-columns.ensures.is c.if-n-sheet.true

pub returns-then-head_right : goal.returns-then-head_right
returns-then-head_right c = right_scores _ _ c.head_right.ensures c.if-head_right.true _ _ c.sheet_rows-rows.ensures.is c.sheet_columns-columns.ensures.is _ c.if-rows-eq0.false c.if-columns-eq0.false c.if-n-sheet.false c.scores_right.ensures

pub returns : goal.returns
returns c = right_head _ _ c.head_right.ensures c.if-head_right.false
