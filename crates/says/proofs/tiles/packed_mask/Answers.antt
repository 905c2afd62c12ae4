-- `says::tiles::packed_mask` meets its contract. Assumes nothing.
use native.Mathlib.Omega.{arith}
use Rattle.says.proofs.TileLaws.{bit_begin, mask_begin, bit_room, bit_step, mask_step, mask_end}
use Rattle.says.proofs.tiles.packed_mask.Goals as goal

pub loop-e-init : goal.loop-e-init
loop-e-init c = (omega arith, c.entries_read-n.ensures.few, omega arith, omega arith, c.entries_read-n.ensures.is, bit_begin, mask_begin _)

pub loop-e-preserved : goal.loop-e-preserved
loop-e-preserved c = let i = c.loop-e.invariant in (omega arith, i.1, bit_room _ _ _ i.5 (omega arith) i.1, omega (arith, c.bit_where-mask.ensures.small, i.3), i.4, bit_step _ _ i.5, mask_step _ _ _ _ _ _ i.6 i.5 c.section_packed.ensures c.bit_where-mask.ensures.is)

pub returns : goal.returns
returns c = let i = c.loop-e.invariant in mask_end _ _ _ _ _ i.6 i.0 (omega arith) i.4
