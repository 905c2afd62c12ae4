-- `m32::ended` meets its contract. Assumes nothing.
use Rattle.m32.proofs.StepLaws.{end_signed, base_least, end_not}
use mathlib.Core.Bool.{true, false}
use mathlib.Core.Path.{sym}
use native.Mathlib.Omega.{arith}
use Rattle.m32.proofs.ended.Goals as goal

pub returns-then-p-gt4 : goal.returns-then-p-gt4
returns-then-p-gt4 c = sym (end_not _ _ (λ h k. omega arith))

pub returns-then-v-gt2147483647 : goal.returns-then-v-gt2147483647
returns-then-v-gt2147483647 c = sym (end_not _ _ (λ h k. omega arith))

pub returns-then-m-gt2147483647 : goal.returns-then-m-gt2147483647
returns-then-m-gt2147483647 c = sym (end_not _ _ (λ h k. omega arith))

pub overflow_cast-result : goal.overflow_cast-result
overflow_cast-result c = omega (arith, base_least c.args.p.digits (omega arith))

pub returns-then-p : goal.returns-then-p
returns-then-p c = end_signed _ _ _ true c.base.ensures c.if-p.true (omega arith) (omega arith)

pub returns : goal.returns
returns c = end_signed _ _ _ false c.base.ensures c.if-p.false (omega arith) (omega arith)
