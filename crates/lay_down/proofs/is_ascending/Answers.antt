-- `lay_down::is_ascending` meets its contract. Assumes nothing.
use borrow.Author.Rules.{rules}
use Rattle.lay_down.proofs.AscendLaws.{ascending_low, ascending_high, ascending_more, ascending_end}
use mathlib.Core.Path.{refl}
use native.Mathlib.Omega.{arith}
use Rattle.lay_down.proofs.is_ascending.Goals as goal

pub loop-index-init : goal.loop-index-init
loop-index-init c = (search rules, refl)

pub overflow_cast-x : goal.overflow_cast-x
overflow_cast-x c = omega (arith, c.type_inv.indexes c.loop-index.index-index)

pub returns-then-x-least : goal.returns-then-x-least
returns-then-x-least c = ascending_low _ _ c.args.indexes.now c.loop-index.index-index _ c.loop-index.invariant.1 (omega arith) (omega arith)

pub returns-then-n-x : goal.returns-then-n-x
returns-then-n-x c = ascending_high _ _ c.args.indexes.now c.loop-index.index-index _ c.loop-index.invariant.1 (omega arith) (omega arith)

pub overflow_add-least : goal.overflow_add-least
overflow_add-least c = omega (arith, c.type_inv.indexes c.loop-index.index-index)

pub loop-index-preserved : goal.loop-index-preserved
loop-index-preserved c = (search rules, ascending_more _ _ c.args.indexes.now c.loop-index.index-index _ c.loop-index.invariant.1 (omega arith) (omega arith) (omega arith))

pub returns : goal.returns
returns c = ascending_end _ _ c.args.indexes.now c.loop-index.index-index _ c.loop-index.invariant.1 (omega arith)
