-- `calls::storing::put_new_cut` meets its contract. Assumes nothing.
use native.Mathlib.Omega.{arith}
use Rattle.stores.proofs.JoinLaws.{ran, told}
use Rattle.calls.proofs.StoreLaws.{new_done}
use Rattle.calls.proofs.storing.put_new_cut.Goals as goal

pub overflow_add-spot : goal.overflow_add-spot
overflow_add-spot c = omega (arith, c.requires.near)

pub returns : goal.returns
returns c = let all_of = told (new_done _ _ _ _ c.requires (ran (c.join_cut-a.ensures.left, c.join_cut-a.ensures.holds)) (ran (c.put_tile_cut-b.ensures.left, c.put_tile_cut-b.ensures.holds)) c.difference-rest.ensures (ran (c.put_rest_cut.ensures.left, c.put_rest_cut.ensures.holds))) in record { left = all_of.0; holds = all_of.1 }
