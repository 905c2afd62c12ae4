-- `squeeze::fields::put_fields_cut` meets its contract. Assumes nothing.
use native.Mathlib.Omega.{arith}
use Rattle.stores.proofs.JoinLaws.{ran, told, ran_room}
use Rattle.squeeze.proofs.FieldLaws.{putting_none, putting_room, putting_inside, putting_ahead, putting_more, putting_all}
use Rattle.squeeze.proofs.fields.put_fields_cut.Goals as goal

pub loop-i-init : goal.loop-i-init
loop-i-init c = putting_none _ _ _ _ c.requires.1.1

pub overflow_add-from : goal.overflow_add-from
overflow_add-from c = omega (arith, putting_inside c.loop-i.invariant c.requires.1.1 c.requires.0, c.requires.1.1.inside, c.requires.0, c.loop-i.invariant.order)

pub overflow_add-from-in-loop-i : goal.overflow_add-from-in-loop-i
overflow_add-from-in-loop-i c = omega (arith, putting_inside c.loop-i.invariant c.requires.1.1 c.requires.0, c.requires.1.1.inside, c.requires.0, c.loop-i.invariant.order)

pub named_in-content-requires : goal.named_in-content-requires
named_in-content-requires c = c.requires.1.0

pub overflow_add-to : goal.overflow_add-to
overflow_add-to c = omega (arith, putting_inside c.loop-i.invariant c.requires.1.1 c.requires.0, c.requires.1.1.inside, c.requires.0, c.loop-i.invariant.order)

pub overflow_add-from-in-loop-i-2 : goal.overflow_add-from-in-loop-i-2
overflow_add-from-in-loop-i-2 c = omega (arith, putting_inside c.loop-i.invariant c.requires.1.1 c.requires.0, c.requires.1.1.inside, c.requires.0, c.loop-i.invariant.order)

pub overflow_sub-q : goal.overflow_sub-q
overflow_sub-q c = omega (arith, c.loop-i.invariant.order)

pub move_down_cut-left-requires : goal.move_down_cut-left-requires
move_down_cut-left-requires c = (omega (arith, c.requires.0), omega (arith, putting_inside c.loop-i.invariant c.requires.1.1 c.requires.0, c.requires.1.1.inside, putting_room c.loop-i.invariant c.requires.1.1 c.requires.0, c.loop-i.invariant.order))

pub overflow_add-to-in-loop-i : goal.overflow_add-to-in-loop-i
overflow_add-to-in-loop-i c = omega (arith, putting_inside c.loop-i.invariant c.requires.1.1 c.requires.0, c.requires.1.1.inside, c.requires.0, c.loop-i.invariant.order)

pub put_reference_cut-left-requires : goal.put_reference_cut-left-requires
put_reference_cut-left-requires c = c.requires.1.1.width

pub overflow_add-p : goal.overflow_add-p
overflow_add-p c = let a = putting_ahead c.loop-i.invariant c.requires.1.1 c.requires.0 (omega arith) c.field_size-size.ensures in omega (arith, c.requires.1.1.inside)

pub overflow_add-q : goal.overflow_add-q
overflow_add-q c = let a = putting_ahead c.loop-i.invariant c.requires.1.1 c.requires.0 (omega arith) c.field_size-size.ensures in omega (arith, c.requires.1.1.inside)

pub loop-i-preserved : goal.loop-i-preserved
loop-i-preserved c = putting_more c.loop-i.invariant c.requires.1.1 c.requires.0 (omega arith) c.field_size-size.ensures c.named_in-content.ensures c.reference_read.ensures (ran (c.move_down_cut-left.ensures.left, c.move_down_cut-left.ensures.holds)) (ran (c.put_reference_cut-left.ensures.left, c.put_reference_cut-left.ensures.holds))

pub overflow_add-to-2 : goal.overflow_add-to-2
overflow_add-to-2 c = omega (arith, putting_inside c.loop-i.invariant c.requires.1.1 c.requires.0, c.requires.1.1.inside, c.requires.0, c.loop-i.invariant.order)

pub overflow_add-from-2 : goal.overflow_add-from-2
overflow_add-from-2 c = omega (arith, putting_inside c.loop-i.invariant c.requires.1.1 c.requires.0, c.requires.1.1.inside, c.requires.0, c.loop-i.invariant.order)

pub overflow_sub-n : goal.overflow_sub-n
overflow_sub-n c = omega (arith, c.requires.1.1.least)

pub overflow_sub-n-2 : goal.overflow_sub-n-2
overflow_sub-n-2 c = omega (arith, putting_inside c.loop-i.invariant c.requires.1.1 c.requires.0, c.loop-i.invariant.order)

pub move_down_cut-requires : goal.move_down_cut-requires
move_down_cut-requires c = (omega (arith, c.requires.0), omega (arith, putting_inside c.loop-i.invariant c.requires.1.1 c.requires.0, c.requires.1.1.inside, putting_room c.loop-i.invariant c.requires.1.1 c.requires.0, c.loop-i.invariant.order))

pub shape_of-out : goal.shape_of-out
shape_of-out c = ran_room (putting_all c.loop-i.invariant c.requires.1.1 c.requires.0 (omega arith) (ran (c.move_down_cut.ensures.left, c.move_down_cut.ensures.holds)))

pub returns : goal.returns
returns c = let all_of = told (putting_all c.loop-i.invariant c.requires.1.1 c.requires.0 (omega arith) (ran (c.move_down_cut.ensures.left, c.move_down_cut.ensures.holds))) in record { left = all_of.0; holds = all_of.1 }
