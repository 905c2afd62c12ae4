-- `calls::close_page` meets its contract. Assumes nothing.
use native.Mathlib.Omega.{arith}
use Rattle.effects.proofs.CloseEffects.{close_makes}
use Rattle.calls.proofs.AnswerLaws.{whole_call}
use Rattle.calls.proofs.close_page.Goals as goal

pub returns-clause-answer : goal.returns-clause-answer
returns-clause-answer c = c.close_page_stopped-x.ensures.answer

pub returns-clause-buffer : goal.returns-clause-buffer
returns-clause-buffer c = whole_call _ (close_makes _) _ _ (record { small = λ i. grind arith }) c.close_page_stopped-x.ensures.buffer
