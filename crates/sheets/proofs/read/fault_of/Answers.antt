-- `sheets::read::fault_of` meets its contract. Assumes nothing.
use Rattle.sheets.proofs.ReadLaws.{fault_refused, fault_none, fault_score}
use Rattle.sheets.proofs.read.fault_of.Goals as goal

pub returns-then-score_right : goal.returns-then-score_right
returns-then-score_right c = fault_none c.args.x _ c.cell_verdict.ensures c.in-Ok.is _ _ c.cell_bits.ensures c.score_right.ensures c.if-score_right.true

pub returns-in-Err : goal.returns-in-Err
returns-in-Err c = fault_refused c.args.x _ c.cell_verdict.ensures _ c.in-Err.is

pub returns-else-score_right : goal.returns-else-score_right
returns-else-score_right c = fault_score c.args.x _ c.cell_verdict.ensures c.in-Ok.is _ _ c.cell_bits.ensures c.score_right.ensures c.if-score_right.false
