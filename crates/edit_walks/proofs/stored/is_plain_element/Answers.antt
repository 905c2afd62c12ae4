-- `edit_walks::stored::is_plain_element` meets its contract. Assumes nothing.
use native.Mathlib.Omega.{arith}
use Rattle.edit_walks.proofs.StoredLaws.{element_not, element_is}
use Rattle.edit_walks.proofs.stored.is_plain_element.Goals as goal

pub returns-then-l-element_bytes : goal.returns-then-l-element_bytes
returns-then-l-element_bytes c = element_not _ _ _ c.requires c.section_start.ensures.is c.u32_at-l.ensures c.element_bytes.ensures (λ z. omega arith) (omega arith)

pub returns : goal.returns
returns c = element_is _ _ _ c.requires c.section_start.ensures.is c.u32_at-l.ensures c.element_bytes.ensures (omega arith) (omega arith)
