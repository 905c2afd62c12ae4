-- `score_sheets::score_right` meets its contract. Assumes nothing.
use Rattle.score_sheets.proofs.SheetLaws.{score_low, score_high}
use Rattle.score_sheets.proofs.score_right.Goals as goal

pub returns-then-v-le1000 : goal.returns-then-v-le1000
returns-then-v-le1000 c = score_low _ c.if-v-le1000.true

pub returns : goal.returns
returns c = score_high _ c.if-v-le1000.false
