-- `comparisons::kinds_alike` meets its contract. Assumes nothing.
use native.Mathlib.Omega.{arith}
use Rattle.wire.proofs.TestLaws.{below_none, each_all}
use Rattle.comparisons.proofs.PageLaws.{kinds_not, kinds_more}
use Rattle.comparisons.proofs.kinds_alike.Goals as goal

pub loop-e-init : goal.loop-e-init
loop-e-init c = (omega arith, below_none _)

pub returns-then-kind_of : goal.returns-then-kind_of
returns-then-kind_of c = kinds_not _ _ _ _ _ _ c.loop-e-test.true c.kind_of.ensures c.kind_of-in-loop-e.ensures c.if-kind_of.true

pub loop-e-preserved : goal.loop-e-preserved
loop-e-preserved c = (omega arith, kinds_more _ _ _ _ _ c.kind_of.ensures c.kind_of-in-loop-e.ensures c.if-kind_of.false c.loop-e.invariant.1)

pub returns : goal.returns
returns c = each_all _ _ _ c.loop-e.invariant.1 c.loop-e.invariant.0 (omega arith)
