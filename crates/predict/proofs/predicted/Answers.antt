-- `predict::predicted` meets its contract. Assumes nothing.
use Rattle.predict.proofs.RowLaws.{at_first, by_difference, by_line, by_triangle, no_line, a_line}
use Rattle.std.proofs.Common.{◌∙◌, arith}
use Rattle.predict.proofs.predicted.Goals as goal

pub returns-then-i-eq0 : goal.returns-then-i-eq0
returns-then-i-eq0 c = c.number_in.ensures ∙ at_first _ _ _ _ _ (omega arith)

pub returns-then-p-eq0 : goal.returns-then-p-eq0
returns-then-p-eq0 c = by_difference _ _ _ _ _ (λ h. omega arith) (omega arith)

pub returns-then-i-eq1 : goal.returns-then-i-eq1
returns-then-i-eq1 c = by_line _ _ _ _ _ (λ h. omega arith) _ (omega arith) (no_line _ _ _ (omega arith))

pub returns-then-p-eq1 : goal.returns-then-p-eq1
returns-then-p-eq1 c = by_line _ _ _ _ _ (λ h. omega arith) _ (omega arith) (a_line _ _ _ _ (λ h. omega arith) c.sum_less.ensures)

pub returns : goal.returns
returns c = by_triangle _ _ _ _ _ (λ h. omega arith) _ _ _ (λ h. omega arith) (λ h. omega arith) c.number_in-up.ensures c.number_in-corner.ensures c.sum_less-2.ensures
