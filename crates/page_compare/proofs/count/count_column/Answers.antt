-- `page_compare::count::count_column` meets its contract. Assumes nothing.
use native.Mathlib.Omega.{arith}
use mathlib.Core.Path.{refl}
use Rattle.wire.proofs.CountLaws.{counted_none, counted_more, counted_all, counted_few}
use Rattle.page_compare.proofs.count.count_column.Goals as goal

pub loop-e-init : goal.loop-e-init
loop-e-init c = counted_none _ _

pub overflow_add-at : goal.overflow_add-at
overflow_add-at c = record { fits = omega arith }

pub overflow_add-n : goal.overflow_add-n
overflow_add-n c = record { fits = omega (arith, counted_few _ _ _ _ c.loop-e.invariant, counted_few _ _ _ _ (counted_more _ _ _ _ _ c.loop-e.invariant c.mark_count-n.ensures c.loop-e-test.true)) }

pub overflow_add-e : goal.overflow_add-e
overflow_add-e c = record { fits = omega arith }

pub loop-e-preserved : goal.loop-e-preserved
loop-e-preserved c = counted_more _ _ _ _ _ c.loop-e.invariant c.mark_count-n.ensures c.loop-e-test.true

pub returns : goal.returns
returns c = counted_all _ _ _ _ _ c.loop-e.invariant c.loop-e-test.false refl
