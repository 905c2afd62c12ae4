-- `calls::storing::new_cut` meets its contract. Assumes nothing.
use native.Mathlib.Omega.{arith}
use Rattle.stores.proofs.JoinLaws.{ran, told}
use Rattle.calls.proofs.StoreLaws.{new_ready, new_referred}
use Rattle.calls.proofs.storing.new_cut.Goals as goal

pub overflow_cast-count : goal.overflow_cast-count
overflow_cast-count c = omega (arith, c.entries_read-count.ensures.few)

pub put_new_cut-a-requires : goal.put_new_cut-a-requires
put_new_cut-a-requires c = new_ready _ _ _ c.part_of-s.ensures.holds c.requires.1.0 c.requires.0 c.layout_of-p.ensures.is c.plain_tile_length-long.ensures c.requires.1.1.0 c.requires.1.1.1 c.entries_read-count.ensures.is

pub overflow_add-spot : goal.overflow_add-spot
overflow_add-spot c = let w = new_ready _ _ _ c.part_of-s.ensures.holds c.requires.1.0 c.requires.0 c.layout_of-p.ensures.is c.plain_tile_length-long.ensures c.requires.1.1.0 c.requires.1.1.1 c.entries_read-count.ensures.is in omega (arith, w.near)

pub returns : goal.returns
returns c = let all_of = told (new_referred _ _ _ (new_ready _ _ _ c.part_of-s.ensures.holds c.requires.1.0 c.requires.0 c.layout_of-p.ensures.is c.plain_tile_length-long.ensures c.requires.1.1.0 c.requires.1.1.1 c.entries_read-count.ensures.is) (ran (c.put_new_cut-a.ensures.left, c.put_new_cut-a.ensures.holds)) (ran (c.refer_cut.ensures.left, c.refer_cut.ensures.holds))) in record { left = all_of.0; holds = all_of.1 }
