-- `blocks::block_end` meets its contract. Assumes nothing.
use native.Mathlib.Omega.{arith}
use Rattle.blocks.proofs.BlockLaws.{end_none, end_first, end_inside, end_past}
use Rattle.blocks.proofs.block_end.Goals as goal

pub returns-then-side-eq0 : goal.returns-then-side-eq0
returns-then-side-eq0 c = end_none _ _ _ _ (omega arith)

pub returns-then-end-at : goal.returns-then-end-at
returns-then-end-at c = end_first _ _ _ _ (omega arith) (omega arith)

pub returns-then-rest-end : goal.returns-then-rest-end
returns-then-rest-end c = end_inside _ _ _ _ (omega arith) _ c.sum_remainder.ensures.is (omega arith) (omega arith)

pub returns : goal.returns
returns c = end_past _ _ _ _ (omega arith) _ c.sum_remainder.ensures.is (omega arith) (omega arith)
