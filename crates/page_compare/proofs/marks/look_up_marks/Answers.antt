-- `page_compare::marks::look_up_marks` meets its contract. Assumes nothing.
use native.Mathlib.Omega.{arith}
use Rattle.page_compare.proofs.MarkLaws.{marks_none, marks_more, marks_end, mark_room, held_mark_lem}
use Rattle.page_compare.proofs.marks.look_up_marks.Goals as goal

pub overflow_add-row : goal.overflow_add-row
overflow_add-row c = record { fits = omega (arith, c.requires.small) }

pub loop-c-init : goal.loop-c-init
loop-c-init c = (omega arith, marks_none _ _)

pub overflow_add-column : goal.overflow_add-column
overflow_add-column c = record { fits = omega (arith, c.requires.small) }

pub overflow_add-column-in-loop-c : goal.overflow_add-column-in-loop-c
overflow_add-column-in-loop-c c = record { fits = omega (arith, c.requires.small) }

pub overflow_mul-c : goal.overflow_mul-c
overflow_mul-c c = record { fits = omega (arith, c.requires.small) }

pub overflow_add-c : goal.overflow_add-c
overflow_add-c c = record { fits = omega (arith, c.requires.small, c.requires.e_lt_mark_width) }

pub put_mark-requires : goal.put_mark-requires
put_mark-requires c = mark_room _ _ _ _ c.loop-c-test.true c.requires.e_lt_mark_width.0 (omega (arith, c.loop-c.invariant.1.long, c.requires.e_lt_mark_width.1))

pub overflow_add-c-in-loop-c : goal.overflow_add-c-in-loop-c
overflow_add-c-in-loop-c c = record { fits = omega (arith, c.requires.small) }

pub loop-c-preserved : goal.loop-c-preserved
loop-c-preserved c = (omega arith, marks_more _ _ _ _ _ _ c.loop-c.invariant.1 c.put_mark.ensures (held_mark_lem _ _ _ _ _ _ _ _ _ _ _ _ _ _ c.held_cell-u.ensures c.held_cell-v.ensures) c.requires.e_lt_mark_width.0 (mark_room _ _ _ _ c.loop-c-test.true c.requires.e_lt_mark_width.0 c.requires.e_lt_mark_width.1))

pub shape_of-marks : goal.shape_of-marks
shape_of-marks c = c.loop-c.invariant.1.long

pub returns : goal.returns
returns c = marks_end _ _ _ _ _ c.loop-c.invariant.1 (omega arith)
