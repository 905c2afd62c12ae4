-- `fronts::fixed::put_fixed` meets its contract. Assumes nothing.
use Rattle.fronts.proofs.LineLaws.{fixed_put}
use Rattle.fronts.proofs.fixed.put_fixed.Goals as goal

pub returns : goal.returns
returns c = fixed_put _ _ _ _ _ _ _ _ _ _ _ _ _ _ _ _ c.requires.0 c.put_bytes.ensures c.put_zeros.ensures c.put_sides.ensures c.put_zeros-2.ensures c.put_byte.ensures c.put_zeros-3.ensures c.put_u32.ensures c.requires.1
