-- `fronts::entries::put_entry_tail` meets its contract. Assumes nothing.
use mathlib.Core.Path.{refl}
use native.Mathlib.Omega.{arith}
use Rattle.fronts.proofs.WriteLaws.{tail_size, tail_put}
use Rattle.fronts.proofs.entries.put_entry_tail.Goals as goal

pub returns : goal.returns
returns c = let p = c.padding-pad.ensures.is in
    let z = tail_size _ _ _ _ _ refl p in
    record { end = omega (arith, z); holds = tail_put _ _ _ _ _ _ _ _ _ _ _ refl p c.put_string.ensures c.put_string-2.ensures c.put_string-3.ensures c.put_zeros.ensures c.requires.1.1.1 }
