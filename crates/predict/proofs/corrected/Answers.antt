-- `predict::corrected` meets its contract. Assumes nothing.
use Rattle.predict.proofs.RowLaws.{added}
use Rattle.predict.proofs.corrected.Goals as goal

pub returns : goal.returns
returns c = added _ _ _ _ c.predicted-guess.ensures c.wrapping_add_u32.ensures.value
