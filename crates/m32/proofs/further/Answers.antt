-- `m32::further` meets its contract. Assumes nothing.
use Rattle.m32.proofs.StepLaws.{more_step, last_step}
use mathlib.Core.Path.{sym, ◌∙◌}
use native.Mathlib.Omega.{arith}
use Rattle.m32.proofs.further.Goals as goal

pub returns-then-b-ge128 : goal.returns-then-b-ge128
returns-then-b-ge128 c = c.go_on.ensures ∙ sym (more_step _ _ (omega arith))

pub returns : goal.returns
returns c = c.ended.ensures ∙ sym (last_step _ _ (omega arith))
