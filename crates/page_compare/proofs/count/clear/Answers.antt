-- `page_compare::count::clear` meets its contract. Assumes nothing.
use borrow.Author.Rules.{rules}
use native.Mathlib.Omega.{arith}
use mathlib.Core.Path.{refl}
use Rattle.page_compare.proofs.CountLaws.{cleared_none, cleared_more}
use Rattle.page_compare.proofs.count.clear.Goals as goal

pub loop-i-init : goal.loop-i-init
loop-i-init c = (refl, (omega arith, cleared_none _))

pub overflow_add-i : goal.overflow_add-i
overflow_add-i c = record { fits = omega arith }

pub loop-i-preserved : goal.loop-i-preserved
loop-i-preserved c = (search rules, (omega arith, cleared_more _ _ c.loop-i.invariant.1.1 (omega arith)))

pub returns-clause-zero : goal.returns-clause-zero
returns-clause-zero c = (λ i h. c.loop-i.invariant.1.1.each i (omega arith))
