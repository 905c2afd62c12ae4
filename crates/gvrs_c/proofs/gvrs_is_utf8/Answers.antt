-- `gvrs_c::gvrs_is_utf8` meets its contract. Assumes nothing.

use Rattle.gvrs_c.proofs.gvrs_is_utf8.Goals as goal

pub returns-then-is_utf8 : goal.returns-then-is_utf8
returns-then-is_utf8 c = rw (← c.is_utf8.ensures, c.if-is_utf8.true)

pub returns : goal.returns
returns c = rw (← c.is_utf8.ensures, c.if-is_utf8.false)
