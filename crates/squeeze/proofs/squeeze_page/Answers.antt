-- `squeeze::squeeze_page` meets its contract. Assumes nothing.
use native.Mathlib.Omega.{arith}
use Rattle.calls.proofs.AnswerLaws.{whole_call}
use Rattle.squeeze.proofs.CallLaws.{squeezing_makes}
use Rattle.squeeze.proofs.squeeze_page.Goals as goal

pub returns-clause-answer : goal.returns-clause-answer
returns-clause-answer c = c.squeeze_page_stopped-x.ensures.answer

pub returns-clause-buffer : goal.returns-clause-buffer
returns-clause-buffer c = whole_call _ (squeezing_makes _) _ _ (record { small = λ i. grind arith }) c.squeeze_page_stopped-x.ensures.buffer

pub returns-clause-plan : goal.returns-clause-plan
returns-clause-plan c = c.squeeze_page_stopped-x.ensures.plan
