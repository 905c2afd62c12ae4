-- `correct::tiles::put_cells_cut` meets its contract. Assumes nothing.
use native.Mathlib.Omega.{arith}
use Rattle.stores.proofs.JoinLaws.{ran, told, ran_room}
use Rattle.correct.proofs.CellLaws.{over_none, over_more, over_all}
use Rattle.correct.proofs.tiles.put_cells_cut.Goals as goal

pub loop-e-init : goal.loop-e-init
loop-e-init c = over_none _ _ _ _ _

pub overflow_add-p-in-loop-e : goal.overflow_add-p-in-loop-e
overflow_add-p-in-loop-e c = let w = over_more c.loop-e.invariant _ _ c.number_in-u.ensures c.part_of.ensures.holds c.stored_length-p.ensures (ran (c.put_cut-left.ensures.left, c.put_cut-left.ensures.holds)) (omega arith) in omega (arith, w.place_small, c.requires, ran_room c.loop-e.invariant.ran)

pub overflow_add-from : goal.overflow_add-from
overflow_add-from c = let w = over_more c.loop-e.invariant _ _ c.number_in-u.ensures c.part_of.ensures.holds c.stored_length-p.ensures (ran (c.put_cut-left.ensures.left, c.put_cut-left.ensures.holds)) (omega arith) in omega (arith, w.start_small, c.requires)

pub loop-e-preserved : goal.loop-e-preserved
loop-e-preserved c = over_more c.loop-e.invariant _ _ c.number_in-u.ensures c.part_of.ensures.holds c.stored_length-p.ensures (ran (c.put_cut-left.ensures.left, c.put_cut-left.ensures.holds)) (omega arith)

pub shape_of-out : goal.shape_of-out
shape_of-out c = ran_room c.loop-e.invariant.ran

pub returns : goal.returns
returns c = let all_of = told (over_all c.loop-e.invariant (omega arith) (omega arith)) in record { left = all_of.0; holds = all_of.1 }
