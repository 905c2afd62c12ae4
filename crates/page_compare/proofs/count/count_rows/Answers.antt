-- `page_compare::count::count_rows` meets its contract. Assumes nothing.
use native.Mathlib.Omega.{arith}
use mathlib.Core.Path.{refl, ◌∙◌}
use Rattle.store.proofs.PieceLaws.{rectangle_small, start_small}
use Rattle.page_compare.proofs.CountLaws.{added_none, added_more, added_end, row_counted, row_adds}
use Rattle.page_compare.proofs.count.count_rows.Goals as goal

pub loop-r-init : goal.loop-r-init
loop-r-init c = (refl, ((omega arith, omega (arith, c.requires.at.0.sides)), (c.shape_of-shape.ensures.tile_columns, added_none _ _ _ _ _ _)))

pub overflow_mul-start : goal.overflow_mul-start
overflow_mul-start c = record { fits = omega (arith, start_small _ _ _ c.loop-r.r _ c.requires.both.first c.requires.at.0 c.loop-r.invariant.1.1.0 (omega arith) (omega arith)) }

pub overflow_add-start : goal.overflow_add-start
overflow_add-start c = record { fits = omega (arith, start_small _ _ _ c.loop-r.r _ c.requires.both.first c.requires.at.0 c.loop-r.invariant.1.1.0 (omega arith) (omega arith)) }

pub mark_row-requires-clause-both : goal.mark_row-requires-clause-both
mark_row-requires-clause-both c = c.requires.both

pub mark_row-requires-clause-at : goal.mark_row-requires-clause-at
mark_row-requires-clause-at c = c.requires.at.0

pub mark_row-requires-clause-row : goal.mark_row-requires-clause-row
mark_row-requires-clause-row c = ((omega arith, omega arith), rw c.loop-r.invariant.1.1.0)

pub mark_row-requires-clause-room : goal.mark_row-requires-clause-room
mark_row-requires-clause-room c = omega (arith, c.requires.room, c.loop-r.invariant.0)

pub mark_row-requires-clause-ready : goal.mark_row-requires-clause-ready
mark_row-requires-clause-ready c = c.requires.ready

pub count_marks-n-requires : goal.count_marks-n-requires
count_marks-n-requires c = (omega (arith, c.requires.both.few), (omega (arith, c.requires.at.0.sides), omega (arith, c.requires.room, c.loop-r.invariant.0, c.mark_row.ensures.long)))

pub offset_bounds-counts-i : goal.offset_bounds-counts-i
offset_bounds-counts-i c = record { fits = omega (arith, rectangle_small _ _ c.requires.both.first, c.requires.at.0.sides) }

pub bounds-counts-i : goal.bounds-counts-i
bounds-counts-i c = (let m = rectangle_small _ _ c.requires.both.first in let i = c.requires.at.0.sides in row_adds _ _ _ _ _ _ c.loop-r.r _ _ _ _ c.loop-r.invariant.1.1.1 c.requires.small refl c.loop-r.invariant.1.0.0 c.loop-r-test.true (row_counted _ _ _ _ _ _ _ _ _ _ c.mark_row.ensures c.count_marks-n.ensures) (omega arith) (omega arith) c.requires.both.few).1.0

pub overflow_add-counts : goal.overflow_add-counts
overflow_add-counts c = record { fits = omega (arith, (let m = rectangle_small _ _ c.requires.both.first in let i = c.requires.at.0.sides in row_adds _ _ _ _ _ _ c.loop-r.r _ _ _ _ c.loop-r.invariant.1.1.1 c.requires.small refl c.loop-r.invariant.1.0.0 c.loop-r-test.true (row_counted _ _ _ _ _ _ _ _ _ _ c.mark_row.ensures c.count_marks-n.ensures) (omega arith) (omega arith) c.requires.both.few).1.1) }

pub bounds-counts-i-in-loop-r : goal.bounds-counts-i-in-loop-r
bounds-counts-i-in-loop-r c = (let m = rectangle_small _ _ c.requires.both.first in let i = c.requires.at.0.sides in row_adds _ _ _ _ _ _ c.loop-r.r _ _ _ _ c.loop-r.invariant.1.1.1 c.requires.small refl c.loop-r.invariant.1.0.0 c.loop-r-test.true (row_counted _ _ _ _ _ _ _ _ _ _ c.mark_row.ensures c.count_marks-n.ensures) (omega arith) (omega arith) c.requires.both.few).1.0

pub overflow_add-r : goal.overflow_add-r
overflow_add-r c = record { fits = omega (arith, rectangle_small _ _ c.requires.both.first, c.requires.at.0.sides) }

pub loop-r-preserved : goal.loop-r-preserved
loop-r-preserved c = (c.mark_row.ensures.long ∙ c.loop-r.invariant.0, ((omega arith, omega arith), (c.loop-r.invariant.1.1.0, added_more _ _ _ _ _ c.loop-r.r _ _ _ _ _ c.loop-r.invariant.1.1.1 refl c.loop-r.invariant.1.0.0 (let m = rectangle_small _ _ c.requires.both.first in let i = c.requires.at.0.sides in row_adds _ _ _ _ _ _ c.loop-r.r _ _ _ _ c.loop-r.invariant.1.1.1 c.requires.small refl c.loop-r.invariant.1.0.0 c.loop-r-test.true (row_counted _ _ _ _ _ _ _ _ _ _ c.mark_row.ensures c.count_marks-n.ensures) (omega arith) (omega arith) c.requires.both.few).0 (row_counted _ _ _ _ _ _ _ _ _ _ c.mark_row.ensures c.count_marks-n.ensures) refl)))

pub returns : goal.returns
returns c = added_end _ _ _ _ _ _ _ _ _ c.loop-r.invariant.1.1.1 (omega arith)
