-- `page_compare::count::add_to_each` meets its contract. Assumes nothing.
use borrow.Author.Rules.{rules}
use native.Mathlib.Omega.{arith}
use mathlib.Core.Path.{refl}
use Rattle.page_compare.proofs.CountLaws.{more_none, more_then, sum_none, sum_then, sum_few, sum_end}
use Rattle.page_compare.proofs.count.add_to_each.Goals as goal

pub loop-i-init : goal.loop-i-init
loop-i-init c = (refl, (omega arith, (more_none _ _, sum_none _)))

pub overflow_add-v : goal.overflow_add-v
overflow_add-v c = record { fits = omega (arith, c.loop-i.invariant.1.1.0.waiting c.loop-i.i (omega arith), c.requires.small c.loop-i.i (omega arith)) }

pub overflow_add-sum : goal.overflow_add-sum
overflow_add-sum c = record { fits = omega (arith, c.loop-i.invariant.1.1.0.waiting c.loop-i.i (omega arith), c.requires.small c.loop-i.i (omega arith), sum_few _ c.loop-i.i 1048576 (λ k l. c.requires.small k (omega arith))) }

pub overflow_add-i : goal.overflow_add-i
overflow_add-i c = record { fits = omega arith }

pub loop-i-preserved : goal.loop-i-preserved
loop-i-preserved c = (search rules, (omega arith, (more_then _ _ _ _ _ c.loop-i.invariant.1.1.0 (omega arith) refl, sum_then _ _ _ _ c.loop-i.invariant.1.1.1 (omega (arith, c.loop-i.invariant.1.1.0.waiting c.loop-i.i (omega arith))))))

pub returns-clause-each : goal.returns-clause-each
returns-clause-each c = λ i h. c.loop-i.invariant.1.1.0.done i (omega arith)

pub returns-clause-sum : goal.returns-clause-sum
returns-clause-sum c = sum_end _ _ _ _ c.loop-i.invariant.1.1.1 (omega arith)
