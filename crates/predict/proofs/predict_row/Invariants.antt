-- `predict::predict_row` meets its contract. Assumes nothing.
use Rattle.predict.proofs.RowLaws.{doing}
use Rattle.predict.specs.Predict.{row_of}
use Rattle.std.proofs.Common.{◌≡◌}
use Rattle.predict.proofs.predict_row.Given as goal

abbrev pub invariant-loop-i : goal.invariant-loop-i
invariant-loop-i l = doing l.p l.above l.row l.i l.left l.second ≡ row_of l.p l.above l.initial.row
