-- `fronts::counts::methods_before` meets its contract. Assumes nothing.
use mathlib.Core.Path.{sym}
use native.Mathlib.Omega.{arith}
use Rattle.wire.proofs.TestLaws.{sum_none}
use Rattle.fronts.proofs.CountLaws.{sum_all, methods_sum_most, method_one, method_step}
use Rattle.fronts.proofs.counts.methods_before.Goals as goal

pub loop-i-init : goal.loop-i-init
loop-i-init c = (omega arith, sym (sum_none _))

pub overflow_add-i : goal.overflow_add-i
overflow_add-i c = omega (arith, c.requires.there)

pub overflow_add-sum : goal.overflow_add-sum
overflow_add-sum c = let v = c.loop-i.invariant in omega (arith, v.1, methods_sum_most _ _ _ c.requires v.0, method_one _ _ _ _ c.requires c.loop-i-test.true c.number_in.ensures)

pub loop-i-preserved : goal.loop-i-preserved
loop-i-preserved c = (omega arith, method_step _ _ _ _ c.loop-i.invariant.1 c.number_in.ensures)

pub returns : goal.returns
returns c = sum_all _ _ _ _ c.loop-i.invariant.1 c.loop-i.invariant.0 (omega arith)
