-- `fronts::fixed::put_sides` meets its contract. Assumes nothing.
use Rattle.fronts.proofs.LineLaws.{sides_put}
use Rattle.fronts.proofs.fixed.put_sides.Goals as goal

pub returns : goal.returns
returns c = sides_put _ _ _ _ _ _ _ _ _ _ c.put_u32.ensures c.put_u32-2.ensures c.put_u32-3.ensures c.put_u32-4.ensures c.requires
