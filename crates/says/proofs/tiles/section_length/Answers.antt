-- `says::tiles::section_length` meets its contract. Assumes nothing.
use native.Mathlib.Omega.{arith}
use Rattle.says.proofs.TileLaws.{length_past, length_there}
use Rattle.says.proofs.tiles.section_length.Goals as goal

pub returns-then-s-x : goal.returns-then-s-x
returns-then-s-x c = length_past _ _ _ (omega arith)

pub returns : goal.returns
returns c = length_there _ _ _ _ _ (omega arith) c.section_start.ensures.is c.u32_at.ensures
