-- `sheets::read::run_right` meets its contract. Assumes nothing.
use Rattle.sheets.proofs.ReadLaws.{run_none, run_next, run_all}
use native.Mathlib.Omega.{arith}
use Rattle.sheets.proofs.read.run_right.Goals as goal

pub loop-i-init : goal.loop-i-init
loop-i-init c = (omega arith, run_none _ _)

pub loop-i-preserved : goal.loop-i-preserved
loop-i-preserved c = (omega arith, run_next _ _ _ c.short_at.result c.loop-i.right _ c.right_with-right.ensures c.short_at.ensures c.loop-i.invariant.1)

pub returns : goal.returns
returns c = run_all _ _ _ _ _ c.loop-i.invariant.1 c.loop-i.invariant.0 (omega arith)
