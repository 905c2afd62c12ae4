-- `says::tiles::bit_where` meets its contract. Assumes nothing.
use Rattle.says.proofs.TileLaws.{bit_set, bit_clear}
use Rattle.says.proofs.tiles.bit_where.Goals as goal

pub returns-then-b-clause-is : goal.returns-then-b-clause-is
returns-then-b-clause-is c = bit_set _ _ c.if-b.true

pub returns-clause-is : goal.returns-clause-is
returns-clause-is c = bit_clear _ _ c.if-b.false
