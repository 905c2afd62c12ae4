-- `fronts::counts::texts_before` meets its contract. Assumes nothing.
use mathlib.Core.Path.{sym}
use native.Mathlib.Omega.{arith}
use Rattle.wire.proofs.TestLaws.{sum_none}
use Rattle.fronts.proofs.CountLaws.{sum_step, summed_there, summed_short, texts_sum_most, texts_one, texts_start}
use Rattle.fronts.proofs.counts.texts_before.Goals as goal

pub loop-e-init : goal.loop-e-init
loop-e-init c = (omega arith, sym (sum_none _))

pub texts_of-sum-requires : goal.texts_of-sum-requires
texts_of-sum-requires c = (summed_there _ _ _ c.requires c.loop-e-test.true, summed_short _ _ _ c.requires c.loop-e-test.true)

pub overflow_add-sum : goal.overflow_add-sum
overflow_add-sum c = let v = c.loop-e.invariant in omega (arith, v.1, texts_sum_most _ _ _ c.requires v.0, texts_one _ _ _ _ c.requires c.loop-e-test.true c.texts_of-sum.ensures)

pub loop-e-preserved : goal.loop-e-preserved
loop-e-preserved c = (omega arith, sum_step _ _ _ _ c.loop-e.invariant.1 c.texts_of-sum.ensures)

pub returns : goal.returns
returns c = texts_start _ _ _ _ c.loop-e.invariant.1 c.loop-e.invariant.0 (omega arith)
