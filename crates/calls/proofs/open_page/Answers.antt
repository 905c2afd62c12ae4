-- `calls::open_page` meets its contract. Assumes nothing.
use native.Mathlib.Omega.{arith}
use Rattle.effects.proofs.OpenEffects.{open_makes}
use Rattle.calls.proofs.AnswerLaws.{whole_call}
use Rattle.calls.proofs.open_page.Goals as goal

pub returns-clause-answer : goal.returns-clause-answer
returns-clause-answer c = c.open_page_stopped-x.ensures.answer

pub returns-clause-buffer : goal.returns-clause-buffer
returns-clause-buffer c = whole_call _ (open_makes _) _ _ (record { small = λ i. grind arith }) c.open_page_stopped-x.ensures.buffer
