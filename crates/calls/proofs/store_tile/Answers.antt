-- `calls::store_tile` meets its contract. Assumes nothing.
use native.Mathlib.Omega.{arith}
use Rattle.effects.proofs.StoreEffects.{store_makes}
use Rattle.calls.proofs.AnswerLaws.{whole_call}
use Rattle.calls.proofs.store_tile.Goals as goal

pub returns-clause-answer : goal.returns-clause-answer
returns-clause-answer c = c.store_tile_stopped-x.ensures.answer

pub returns-clause-buffer : goal.returns-clause-buffer
returns-clause-buffer c = whole_call _ (store_makes _ _) _ _ (record { small = λ i. grind arith }) c.store_tile_stopped-x.ensures.buffer
