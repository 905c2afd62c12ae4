-- `fronts::entries::put_entry_head` meets its contract. Assumes nothing.
use mathlib.Core.Path.{refl}
use native.Mathlib.Omega.{arith}
use Rattle.fronts.proofs.WriteLaws.{head_size, head_put}
use Rattle.fronts.proofs.entries.put_entry_head.Goals as goal

pub put_block-requires : goal.put_block-requires
put_block-requires c = let z = head_size _ _ _ _ _ c.range_count-count.ensures.is refl c.padding-pad.ensures.is in
    (c.range_count-count.ensures.few, (omega (arith, z, c.requires.1.0, c.put_byte.auto.out, c.put_byte-2.auto.out, c.put_zeros.auto.out, c.put_string.auto.out), c.requires.1.1))

pub overflow_add-result : goal.overflow_add-result
overflow_add-result c = omega (arith, head_size _ _ _ _ _ c.range_count-count.ensures.is refl c.padding-pad.ensures.is, c.requires.1.0)

pub overflow_add-result-2 : goal.overflow_add-result-2
overflow_add-result-2 c = omega (arith, head_size _ _ _ _ _ c.range_count-count.ensures.is refl c.padding-pad.ensures.is, c.requires.1.0)

pub returns : goal.returns
returns c = let n = c.range_count-count.ensures.is in
    let p = c.padding-pad.ensures.is in
    let z = head_size _ _ _ _ _ n refl p in
    record { end = omega (arith, z); holds = head_put _ _ _ _ _ _ _ _ _ _ _ _ _ _ _ _ _ refl n refl p c.put_byte.ensures c.put_byte-2.ensures c.put_zeros.ensures c.put_string.ensures c.put_block.ensures c.put_zeros-2.ensures c.requires.1.0 }
