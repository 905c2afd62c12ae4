-- `store::description::specify_by` meets its contract. Assumes nothing.
use native.Mathlib.Omega.{arith}
use Rattle.store.proofs.DescriptionLaws.{element_lacks, element_is}
use Rattle.store.proofs.description.specify_by.Goals as goal

pub returns-then-element_count-e : goal.returns-then-element_count-e
returns-then-element_count-e c = element_lacks _ _ _ c.element_count.ensures (omega arith)

pub returns : goal.returns
returns c = element_is _ _ _ c.element_count.ensures _ _ _ c.element-x.ensures c.unit_place.ensures c.unit_length.ensures (omega arith)
