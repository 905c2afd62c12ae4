-- `page_compare::marks::mark_row` meets its contract. Assumes nothing.
use native.Mathlib.Omega.{arith}
use Rattle.page_compare.proofs.MarkLaws.{elements_none, elements_more, elements_end}
use Rattle.page_compare.proofs.marks.mark_row.Goals as goal

pub loop-e-init : goal.loop-e-init
loop-e-init c = (omega arith, elements_none _ _)

pub bounds-xs-i : goal.bounds-xs-i
bounds-xs-i c = omega (arith, c.requires.both.few)

pub bounds-ys-i : goal.bounds-ys-i
bounds-ys-i c = omega (arith, c.requires.both.few)

pub mark_element-requires-clause-both : goal.mark_element-requires-clause-both
mark_element-requires-clause-both c = c.requires.both

pub mark_element-requires-clause-at : goal.mark_element-requires-clause-at
mark_element-requires-clause-at c = c.requires.at

pub mark_element-requires-clause-row : goal.mark_element-requires-clause-row
mark_element-requires-clause-row c = c.requires.row

pub mark_element-requires-clause-there : goal.mark_element-requires-clause-there
mark_element-requires-clause-there c = (c.loop-e-test.true, omega (arith, c.requires.room, c.loop-e.invariant.1.long))

pub mark_element-requires-clause-ready : goal.mark_element-requires-clause-ready
mark_element-requires-clause-ready c = (c.requires.ready.first _ c.loop-e-test.true, c.requires.ready.second _ c.loop-e-test.true)

pub loop-e-preserved : goal.loop-e-preserved
loop-e-preserved c = (omega arith, elements_more _ _ _ _ _ c.loop-e.invariant.1 c.mark_element.ensures (omega (arith, c.requires.both.few)))

pub shape_of-marks : goal.shape_of-marks
shape_of-marks c = c.loop-e.invariant.1.long

pub returns : goal.returns
returns c = elements_end _ _ _ _ _ c.loop-e.invariant.1 (omega arith)
