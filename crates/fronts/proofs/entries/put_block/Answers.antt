-- `fronts::entries::put_block` meets its contract. Assumes nothing.
use native.Mathlib.Omega.{arith}
use borrow.Author.Rules.{rules}
use Rattle.fronts.proofs.WriteLaws.{blocked_none, blocked_more, blocked_all}
use Rattle.fronts.proofs.entries.put_block.Goals as goal

pub loop-i-init : goal.loop-i-init
loop-i-init c = (search rules, blocked_none _ _ _ _ _)

pub overflow_add-first : goal.overflow_add-first
overflow_add-first c = omega (arith, c.requires.0, c.requires.1.1)

pub overflow_mul-i : goal.overflow_mul-i
overflow_mul-i c = omega (arith, c.requires.0)

pub overflow_add-at : goal.overflow_add-at
overflow_add-at c = omega (arith, c.requires.1.0)

pub loop-i-preserved : goal.loop-i-preserved
loop-i-preserved c = (search rules, blocked_more _ _ _ _ _ _ _ _ _ _ c.loop-i.invariant.1 c.number_in.ensures c.range_number-v.ensures c.put_u32.ensures (omega (arith, c.requires.1.0)))

pub shape_of-out : goal.shape_of-out
shape_of-out c = c.loop-i.invariant.1.kept

pub returns : goal.returns
returns c = blocked_all _ _ _ _ _ _ _ _ c.loop-i.invariant.1 c.loop-i.invariant.0 (omega arith)
