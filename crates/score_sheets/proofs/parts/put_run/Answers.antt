-- `score_sheets::parts::put_run` meets its contract. Assumes nothing.
use mathlib.Core.Path.{refl}
use Rattle.score_sheets.proofs.SheetLaws.{score_read}
use Rattle.score_sheets.proofs.PartLaws.{run_none, run_more}
use borrow.Author.Rules.{rules}
use native.Mathlib.Omega.{arith}
use Rattle.score_sheets.proofs.parts.put_run.Goals as goal

pub loop-i-init : goal.loop-i-init
loop-i-init c = (search rules, run_none _ _ _)

pub loop-i-preserved : goal.loop-i-preserved
loop-i-preserved c = (search rules, run_more _ _ _ _ _ _ _ _ c.loop-i.invariant.1 c.put_two.ensures refl (score_read _ _ _ c.u16_at-v.ensures.is) (omega (arith, c.requires.1)))
