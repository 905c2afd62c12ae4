-- `gvrs_c::description::report_all` meets its contract. The loop's invariant: the first k numbers are written. Assumes nothing.
use native.Mathlib.Omega.{arith}
use Rattle.gvrs_c.proofs.DescriptionLaws.{written_none, written_more, written_length, written_all}
use Rattle.gvrs_c.proofs.description.report_all.Goals as goal

pub loop-k-init : goal.loop-k-init
loop-k-init c = written_none _ _

pub loop-k-preserved : goal.loop-k-preserved
loop-k-preserved c = written_more _ _ _ _ _ c.loop-k.invariant (omega arith) c.report.ensures

pub shape_of-out : goal.shape_of-out
shape_of-out c = written_length _ _ _ _ c.loop-k.invariant

pub returns : goal.returns
returns c = written_all _ _ _ _ c.loop-k.invariant (omega arith)
