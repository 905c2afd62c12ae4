-- `store::many::rectangle_inside` meets its contract. Assumes nothing.
use Rattle.store.proofs.ManyLaws.{lacks, rows_past, rows_inside}
use Rattle.store.proofs.many.rectangle_inside.Goals as goal

pub returns-then-element_count-e : goal.returns-then-element_count-e
returns-then-element_count-e c = lacks _ _ _ _ _ _ _ c.element_count.ensures c.if-element_count-e.true

pub returns-then-within : goal.returns-then-within
returns-then-within c = rows_inside _ _ _ _ _ _ _ _ _ c.element_count.ensures c.grid_rows.ensures c.within.ensures c.if-element_count-e.false _ _ c.if-within.true c.grid_columns.ensures c.within-then-within.ensures

pub returns : goal.returns
returns c = rows_past _ _ _ _ _ _ _ _ _ c.element_count.ensures c.grid_rows.ensures c.within.ensures c.if-element_count-e.false c.if-within.false
