-- `deeds::judge_inside` meets its contract. Assumes nothing.
use Rattle.deeds.proofs.DeedLaws.{deed_input, deed_scored}
use Rattle.deeds.proofs.judge_inside.Goals as goal

pub returns-then-rectangle_scored : goal.returns-then-rectangle_scored
returns-then-rectangle_scored c = deed_scored _ _ _ _ _ _ _ _ c.rectangle_scored.ensures _ c.if-rectangle_scored.true c.judge_said.ensures

pub returns-else-rectangle_scored : goal.returns-else-rectangle_scored
returns-else-rectangle_scored c = deed_input _ _ _ _ _ _ _ _ c.rectangle_scored.ensures c.if-rectangle_scored.false
