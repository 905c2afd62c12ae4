-- `score_sheets::parts::put_rows` meets its contract. Assumes nothing.
use Rattle.score_sheets.proofs.PartLaws.{rows_none, rows_more}
use borrow.Author.Rules.{rules}
use Rattle.score_sheets.proofs.parts.put_rows.Goals as goal

pub loop-r-init : goal.loop-r-init
loop-r-init c = (search rules, rows_none _ _ _ _ _ _)

pub loop-r-preserved : goal.loop-r-preserved
loop-r-preserved c = (search rules, rows_more _ _ _ _ _ _ _ _ _ _ c.loop-r.invariant.1 c.loop-r-test.true c.requires _ c.put_row.ensures)
