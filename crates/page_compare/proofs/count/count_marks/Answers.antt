-- `page_compare::count::count_marks` meets its contract. Assumes nothing.
use native.Mathlib.Omega.{arith}
use mathlib.Core.Path.{refl}
use Rattle.page_compare.proofs.CountLaws.{marks_none, marks_more, marks_few, marks_end}
use Rattle.page_compare.proofs.count.count_marks.Goals as goal

pub loop-c-init : goal.loop-c-init
loop-c-init c = (omega arith, marks_none _ _ _)

pub overflow_mul-at : goal.overflow_mul-at
overflow_mul-at c = record { fits = omega arith }

pub count_column-n-requires : goal.count_column-n-requires
count_column-n-requires c = (omega arith, omega arith)

pub overflow_add-n : goal.overflow_add-n
overflow_add-n c = record { fits = omega (arith, marks_few _ _ _ _ _ (marks_more _ _ _ _ _ _ _ c.loop-c.invariant.1 refl c.count_column-n.ensures c.loop-c.invariant.0.0) (omega arith) (omega arith)) }

pub overflow_add-c : goal.overflow_add-c
overflow_add-c c = record { fits = omega arith }

pub loop-c-preserved : goal.loop-c-preserved
loop-c-preserved c = (omega arith, marks_more _ _ _ _ _ _ _ c.loop-c.invariant.1 refl c.count_column-n.ensures c.loop-c.invariant.0.0)

pub returns : goal.returns
returns c = marks_end _ _ _ _ _ _ c.loop-c.invariant.1 (omega arith)
