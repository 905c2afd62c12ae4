-- `says::tiles::content_byte` meets its contract. Assumes nothing.
use native.Mathlib.Omega.{arith}
use Rattle.says.proofs.TileLaws.{byte_past, byte_there}
use Rattle.says.proofs.tiles.content_byte.Goals as goal

pub returns-then-s-x-clause-is : goal.returns-then-s-x-clause-is
returns-then-s-x-clause-is c = byte_past _ _ _ (omega arith)

pub returns-clause-is : goal.returns-clause-is
returns-clause-is c = byte_there _ _ _ _ _ (omega arith) c.section_start.ensures.is c.byte_off.ensures.is

pub returns-clause-small : goal.returns-clause-small
returns-clause-small c = c.byte_off.ensures.small
