-- `plans::checking::start_right` meets its contract. Assumes nothing.
use native.Mathlib.Omega.{arith}
use Rattle.plans.proofs.CheckLaws.{start_odd, start_up, start_before, start_small, start_close, start_wide}
use Rattle.plans.proofs.checking.start_right.Goals as goal

pub returns-then-p-ne0 : goal.returns-then-p-ne0
returns-then-p-ne0 c = start_odd _ _ _ (λ z. omega arith)

pub returns-then-x-p : goal.returns-then-x-p
returns-then-x-p c = start_up _ _ _ (omega arith)

pub returns-then-p-e : goal.returns-then-p-e
returns-then-p-e c = start_before _ _ _ (omega arith)

pub returns-then-gap-eq0 : goal.returns-then-gap-eq0
returns-then-gap-eq0 c = start_close _ _ _ (omega arith) (omega arith) (omega arith)

pub returns-then-gap-lt16 : goal.returns-then-gap-lt16
returns-then-gap-lt16 c = start_small _ _ _ (λ z. omega arith) (omega arith)

pub returns : goal.returns
returns c = start_wide _ _ _ (omega arith) (omega arith) (omega arith)
