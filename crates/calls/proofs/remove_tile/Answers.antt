-- `calls::remove_tile` meets its contract. Assumes nothing.
use native.Mathlib.Omega.{arith}
use Rattle.effects.proofs.StoreEffects.{remove_makes}
use Rattle.calls.proofs.AnswerLaws.{whole_call}
use Rattle.calls.proofs.remove_tile.Goals as goal

pub returns-clause-answer : goal.returns-clause-answer
returns-clause-answer c = c.remove_tile_stopped-x.ensures.answer

pub returns-clause-buffer : goal.returns-clause-buffer
returns-clause-buffer c = whole_call _ (remove_makes _) _ _ (record { small = λ i. grind arith }) c.remove_tile_stopped-x.ensures.buffer
