-- `says::tiles::section_packed` meets its contract. Assumes nothing.
use native.Mathlib.Omega.{arith}
use Rattle.says.proofs.TileLaws.{packed_yes, packed_no}
use Rattle.says.proofs.tiles.section_packed.Goals as goal

pub returns-then-l-element_bytes : goal.returns-then-l-element_bytes
returns-then-l-element_bytes c = packed_yes _ _ _ _ _ c.section_length-l.ensures c.element_bytes.ensures (omega arith)

pub returns : goal.returns
returns c = packed_no _ _ _ _ _ c.section_length-l.ensures c.element_bytes.ensures (omega arith) (omega arith)
