-- `gvrs_c::gvrs_is_identifier` meets its contract. Assumes nothing.

use Rattle.gvrs_c.proofs.gvrs_is_identifier.Goals as goal

pub returns-then-is_identifier : goal.returns-then-is_identifier
returns-then-is_identifier c = rw (← c.is_identifier.ensures, c.if-is_identifier.true)

pub returns : goal.returns
returns c = rw (← c.is_identifier.ensures, c.if-is_identifier.false)
