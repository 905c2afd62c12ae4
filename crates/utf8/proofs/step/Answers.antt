-- `utf8::step` meets its contract. Assumes nothing.
use native.Mathlib.Omega.{arith}
use Rattle.utf8.specs.inner.Wanted.{wanted}
use Rattle.utf8.proofs.OctetLaws.{octet_in, octet_out}
use Rattle.utf8.proofs.StepLaws.{step_lead, step_out, step_in}
use Rattle.utf8.proofs.step.Goals as goal

pub returns-then-left-eq0 : goal.returns-then-left-eq0
unfolding wanted
returns-then-left-eq0 c bs = step_lead _ _ bs _ _ c.if-left-eq0.true c.lead.ensures

pub returns-then-b-w : goal.returns-then-b-w
unfolding wanted
returns-then-b-w c bs = step_out _ _ bs c.if-left-eq0.false _ (octet_out _ _ _ (omega arith))

pub returns-then-w-b : goal.returns-then-w-b
unfolding wanted
returns-then-w-b c bs = step_out _ _ bs c.if-left-eq0.false _ (octet_out _ _ _ (omega arith))

pub returns : goal.returns
unfolding wanted
returns c bs = step_in _ _ bs c.if-left-eq0.false _ (octet_in _ _ _ (omega arith))
