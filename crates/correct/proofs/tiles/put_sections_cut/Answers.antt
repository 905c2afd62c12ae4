-- `correct::tiles::put_sections_cut` meets its contract. Assumes nothing.
use native.Mathlib.Omega.{arith}
use Rattle.stores.proofs.JoinLaws.{ran, told, ran_room, stored_ran}
use Rattle.correct.proofs.TileLaws.{putting_none, next_small, putting_fits, putting_fits_now, putting_more, putting_all}
use Rattle.correct.proofs.tiles.put_sections_cut.Goals as goal

pub loop-e-init : goal.loop-e-init
loop-e-init c = putting_none _ _ _ _ _

pub put_section_cut-left-requires : goal.put_section_cut-left-requires
put_section_cut-left-requires c = putting_fits_now c.loop-e.invariant _ c.args.m c.number_in-u.ensures c.part_of-bytes.ensures.holds (omega arith) (omega arith) c.requires.1

pub stored_length-p-requires : goal.stored_length-p-requires
stored_length-p-requires c = omega (arith, next_small c.loop-e.invariant.measured _ c.number_in-u.ensures c.part_of-bytes.ensures.holds (omega arith))

pub overflow_add-p : goal.overflow_add-p
overflow_add-p c = omega (arith, c.stored_length-p.ensures, putting_fits c.loop-e.invariant _ c.args.m c.number_in-u.ensures c.part_of-bytes.ensures.holds (omega arith) (omega arith) c.requires.1, ran_room (stored_ran c.loop-e.invariant.stored))

pub overflow_add-from : goal.overflow_add-from
overflow_add-from c = omega (arith, c.loop-e.invariant.measured.start_small, c.requires.0)

pub loop-e-preserved : goal.loop-e-preserved
loop-e-preserved c = putting_more c.loop-e.invariant _ c.args.m c.number_in-u.ensures c.part_of-bytes.ensures.holds (omega arith) (omega arith) c.requires.1 _ c.stored_length-p.ensures (ran (c.put_section_cut-left.ensures.left, c.put_section_cut-left.ensures.holds))

pub shape_of-out : goal.shape_of-out
shape_of-out c = ran_room (stored_ran c.loop-e.invariant.stored)

pub returns : goal.returns
returns c = let all_of = told (putting_all c.loop-e.invariant (omega arith) (omega arith)) in record { left = all_of.0; holds = all_of.1 }
