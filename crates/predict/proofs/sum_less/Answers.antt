-- `predict::sum_less` meets its contract. Assumes nothing.
use Rattle.predict.proofs.RowLaws.{summed}
use Rattle.std.proofs.Common.{arith}
use Rattle.predict.proofs.sum_less.Goals as goal

pub returns : goal.returns
returns c = summed _ _ _ _ _ c.wrapping_add_u32-sum.ensures.value c.wrapping_sub_u32.ensures.value (omega arith)
