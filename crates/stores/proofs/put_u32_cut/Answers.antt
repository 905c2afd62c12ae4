-- `stores::put_u32_cut` meets its contract. Assumes nothing.
use mathlib.Core.Path.{refl}
use Rattle.stores.proofs.WriteLaws.{apart_is, same_left, same_holds}
use Rattle.stores.proofs.put_u32_cut.Goals as goal

pub returns : goal.returns
returns c = let e = apart_is 4 _ _ refl c.put_u32.ensures in
    record { left = same_left _ _ _ e c.put_cut.ensures.left; holds = same_holds _ _ _ _ e c.put_cut.ensures.holds }
