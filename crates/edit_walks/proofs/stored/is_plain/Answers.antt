-- `edit_walks::stored::is_plain` meets its contract. Assumes nothing.
use native.Mathlib.Omega.{arith}
use Rattle.edit_walks.proofs.StoredLaws.{plains_none, plains_more, plains_not, plains_all}
use Rattle.edit_walks.proofs.stored.is_plain.Goals as goal

pub loop-e-init : goal.loop-e-init
loop-e-init c = (omega arith, plains_none _ _)

pub loop-e-preserved : goal.loop-e-preserved
loop-e-preserved c = (omega arith, plains_more _ _ _ c.loop-e.invariant.1 c.is_plain_element.ensures c.if-is_plain_element.true)

pub returns-else-is_plain_element : goal.returns-else-is_plain_element
returns-else-is_plain_element c = plains_not _ _ _ _ c.element_count-n.ensures (omega arith) c.is_plain_element.ensures c.if-is_plain_element.false

pub returns : goal.returns
returns c = plains_all _ _ _ _ c.element_count-n.ensures c.loop-e.invariant.1 (omega arith) (omega arith)
