-- `fronts::judge::tile_told` meets its contract. Assumes nothing.
use native.Mathlib.Omega.{arith}
use Rattle.fronts.proofs.JudgeLaws.{tiled_none, tiled_more, tiled_all}
use Rattle.fronts.proofs.judge.tile_told.Goals as goal

pub loop-e-init : goal.loop-e-init
loop-e-init c = (omega arith, tiled_none _ _ _)

pub numbers_at-x-requires : goal.numbers_at-x-requires
numbers_at-x-requires c = omega (arith, c.requires.0)

pub element_in_tile-sum-requires : goal.element_in_tile-sum-requires
element_in_tile-sum-requires c = (c.requires.1.1.0, c.requires.1.1.1)

pub overflow_add-sum : goal.overflow_add-sum
overflow_add-sum c = omega (arith, c.loop-e.invariant.1.small, c.element_in_tile-sum.ensures.small, c.requires.1.0, c.loop-e.invariant.0)

pub loop-e-preserved : goal.loop-e-preserved
loop-e-preserved c = (omega arith, tiled_more _ _ _ _ _ _ _ c.loop-e.invariant.1 c.numbers_at-x.ensures c.element_in_tile-sum.ensures.is c.element_in_tile-sum.ensures.small)

pub returns : goal.returns
returns c = tiled_all _ _ _ _ _ _ c.loop-e.invariant.1 c.loop-e.invariant.0 (omega arith)
