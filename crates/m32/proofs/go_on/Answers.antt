-- `m32::go_on` meets its contract. Assumes nothing.
use native.Mathlib.Omega.{arith}
use mathlib.Core.Path.{sym}
use Rattle.m32.proofs.StepLaws.{go_on_lem, go_not}
use Rattle.m32.proofs.go_on.Goals as goal

pub returns-then-p-gt3 : goal.returns-then-p-gt3
returns-then-p-gt3 c = sym (go_not _ _ (λ h k. omega arith))

pub returns-then-v-gt2147483647 : goal.returns-then-v-gt2147483647
returns-then-v-gt2147483647 c = sym (go_not _ _ (λ h k. omega arith))

pub returns : goal.returns
returns c = sym (go_on_lem _ _ (omega arith) (omega arith))
