-- `sheets::read::right_with` meets its contract. Assumes nothing.
use Rattle.sheets.proofs.ReadLaws.{right_still, right_lost}
use Rattle.sheets.proofs.read.right_with.Goals as goal

pub returns-then-score_right : goal.returns-then-score_right
returns-then-score_right c = right_still c.args.right _ _ c.score_right.ensures c.if-score_right.true

pub returns : goal.returns
returns c = right_lost c.args.right _ _ c.score_right.ensures c.if-score_right.false
