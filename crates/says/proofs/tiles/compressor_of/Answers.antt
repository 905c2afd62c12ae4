-- `says::tiles::compressor_of` meets its contract. Assumes nothing.
use native.Mathlib.Omega.{arith}
use Rattle.says.proofs.TileLaws.{uncoded_begin, uncoded_on, coded_here, coded_nowhere}
use Rattle.says.proofs.tiles.compressor_of.Goals as goal

pub loop-e-init : goal.loop-e-init
loop-e-init c = (c.entries_read-n.ensures.few, c.entries_read-n.ensures.is, uncoded_begin _ _ _)

pub returns-then-is_coded : goal.returns-then-is_coded
returns-then-is_coded c = let i = c.loop-e.invariant in coded_here i.2 c.is_coded.ensures (omega arith) _ i.1 c.if-is_coded.true c.content_byte.ensures.is

pub loop-e-preserved : goal.loop-e-preserved
loop-e-preserved c = let i = c.loop-e.invariant in (i.0, i.1, uncoded_on i.2 c.is_coded.ensures (omega arith) c.if-is_coded.false)

pub returns : goal.returns
returns c = let i = c.loop-e.invariant in coded_nowhere i.2 (omega arith) i.1
