-- `record::frame::padded_to` meets its contract. Assumes nothing.
use native.Mathlib.Omega.{arith}
use Rattle.record.proofs.FitLaws.{fit_over, fit_loose, fit_yes}
use Rattle.record.proofs.frame.padded_to.Goals as goal

pub returns-then-limit-end : goal.returns-then-limit-end
returns-then-limit-end c = fit_over _ _ _ _ c.record_limit-limit.ensures.is (omega arith)

pub returns-then-limit-end-gt7 : goal.returns-then-limit-end-gt7
returns-then-limit-end-gt7 c = fit_loose _ _ _ _ c.record_limit-limit.ensures.is (omega arith)

pub returns : goal.returns
returns c = fit_yes _ _ _ _ c.record_limit-limit.ensures.is (omega arith) (omega arith)
