-- `utf8::is_utf8` meets its contract: what is wanted, and the bytes that are still to come, give the whole. Assumes nothing.
use native.Mathlib.Omega.{arith}
use mathlib.Core.Path.{◌∙◌}
use Rattle.utf8.specs.inner.Wanted.{wanted}
use Rattle.utf8.proofs.StepLaws.{loop_begin, loop_step, loop_end}
use Rattle.utf8.proofs.is_utf8.Goals as goal

pub loop-b-init : goal.loop-b-init
unfolding wanted
loop-b-init c = loop_begin _ _

pub loop-b-preserved : goal.loop-b-preserved
unfolding wanted
loop-b-preserved c = loop_step _ _ _ _ _ (omega arith) c.from.ensures c.step-w.ensures ∙ c.loop-b.invariant

pub returns : goal.returns
unfolding wanted
returns c = loop_end _ _ _ _ c.loop-b.invariant (omega arith)
