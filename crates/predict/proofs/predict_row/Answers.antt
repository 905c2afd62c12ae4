-- `predict::predict_row` meets its contract. Assumes nothing.
use Rattle.predict.proofs.RowLaws.{begin, again, end}
use Rattle.std.proofs.Common.{arith}
use Rattle.predict.proofs.predict_row.Goals as goal

pub loop-i-init : goal.loop-i-init
loop-i-init c = begin _ _ _

pub loop-i-preserved : goal.loop-i-preserved
loop-i-preserved c = again _ _ _ _ _ _ _ _ c.loop-i.invariant c.corrected.ensures (omega arith)

pub returns : goal.returns
returns c = end _ _ _ _ _ _ _ c.loop-i.invariant (omega arith)
