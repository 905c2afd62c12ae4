-- `page_compare::place::spread` meets its contract. Assumes nothing.
use borrow.Author.Rules.{rules}
use native.Mathlib.Omega.{arith}
use mathlib.Core.Path.{refl}
use Rattle.row_lists.proofs.RowLaws.{small_more, spread_none, spread_step, spread_out}
use Rattle.page_compare.proofs.place.spread.Goals as goal

pub loop-i-init : goal.loop-i-init
loop-i-init c = ((refl, refl), (omega arith, (omega (arith, c.requires.small.0), ((λ k h l. c.requires.small.1 k l), spread_none _ _ _ _ _))))

pub overflow_add-at : goal.overflow_add-at
overflow_add-at c = record { fits = omega (arith, c.loop-i.invariant.1.1.1.0 c.loop-i.i (omega arith) c.loop-i-test.true) }

pub loop-i-preserved : goal.loop-i-preserved
loop-i-preserved c = let i = c.loop-i.invariant in ((search rules, search rules), (omega arith, (omega (arith, i.1.1.1.0 c.loop-i.i (omega arith) c.loop-i-test.true), (small_more _ _ _ c.lesser.result c.loop-i.counts i.1.1.1.0, spread_step _ _ _ _ _ _ _ _ _ _ i.1.1.1.1 c.loop-i-test.true (omega arith) (omega arith) c.lesser.ensures c.lesser-in-loop-i.ensures))))

pub returns : goal.returns
returns c = spread_out _ _ _ _ _ _ _ _ c.loop-i.invariant.1.1.1.1 (omega arith)
