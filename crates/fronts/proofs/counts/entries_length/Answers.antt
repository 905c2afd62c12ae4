-- `fronts::counts::entries_length` meets its contract. Assumes nothing.
use mathlib.Core.Path.{sym}
use native.Mathlib.Omega.{arith}
use Rattle.wire.proofs.TestLaws.{sum_none}
use Rattle.fronts.proofs.CountLaws.{sum_step, sum_all, summed_there, summed_short, entries_sum_most, entry_one}
use Rattle.fronts.proofs.counts.entries_length.Goals as goal

pub loop-e-init : goal.loop-e-init
loop-e-init c = (omega arith, sym (sum_none _))

pub entry_length-sum-requires : goal.entry_length-sum-requires
entry_length-sum-requires c = (summed_there _ _ _ c.requires c.loop-e-test.true, summed_short _ _ _ c.requires c.loop-e-test.true)

pub overflow_add-sum : goal.overflow_add-sum
overflow_add-sum c = let v = c.loop-e.invariant in omega (arith, v.1, entries_sum_most _ _ _ c.requires v.0, entry_one _ _ _ _ c.requires c.loop-e-test.true c.entry_length-sum.ensures)

pub loop-e-preserved : goal.loop-e-preserved
loop-e-preserved c = (omega arith, sum_step _ _ _ _ c.loop-e.invariant.1 c.entry_length-sum.ensures)

pub returns : goal.returns
returns c = sum_all _ _ _ _ c.loop-e.invariant.1 c.loop-e.invariant.0 (omega arith)
