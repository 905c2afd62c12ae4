-- `page_compare::marks::tell_marks` meets its contract. Assumes nothing.
use native.Mathlib.Omega.{arith}
use Rattle.page_compare.proofs.MarkLaws.{marks_none, marks_more, marks_end, mark_room, numbered_mark_lem}
use Rattle.page_compare.proofs.marks.tell_marks.Goals as goal

pub loop-c-init : goal.loop-c-init
loop-c-init c = (omega arith, marks_none _ _)

pub overflow_add-inside : goal.overflow_add-inside
overflow_add-inside c = record { fits = omega (arith, c.requires.0) }

pub overflow_cast-inside : goal.overflow_cast-inside
overflow_cast-inside c = record { fits = omega (arith, c.requires.0) }

pub overflow_mul-c : goal.overflow_mul-c
overflow_mul-c c = record { fits = omega (arith, c.requires.0) }

pub overflow_add-c : goal.overflow_add-c
overflow_add-c c = record { fits = omega (arith, c.requires) }

pub put_mark-requires : goal.put_mark-requires
put_mark-requires c = mark_room _ _ _ _ c.loop-c-test.true c.requires.1.0 (omega (arith, c.loop-c.invariant.1.long, c.requires.1.1))

pub overflow_add-c-in-loop-c : goal.overflow_add-c-in-loop-c
overflow_add-c-in-loop-c c = record { fits = omega (arith, c.requires.0) }

pub loop-c-preserved : goal.loop-c-preserved
loop-c-preserved c = (omega arith, marks_more _ _ _ _ _ _ c.loop-c.invariant.1 c.put_mark.ensures (numbered_mark_lem _ _ _ _ _ _ _ _ _ _ _ _ c.numbered_cell-u.ensures c.numbered_cell-v.ensures) c.requires.1.0 (mark_room _ _ _ _ c.loop-c-test.true c.requires.1.0 c.requires.1.1))

pub shape_of-marks : goal.shape_of-marks
shape_of-marks c = c.loop-c.invariant.1.long

pub returns : goal.returns
returns c = marks_end _ _ _ _ _ c.loop-c.invariant.1 (omega arith)
