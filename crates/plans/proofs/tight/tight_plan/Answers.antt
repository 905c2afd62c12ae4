-- `plans::tight::tight_plan` meets its contract. Assumes nothing.
use native.Mathlib.Omega.{arith}
use Rattle.plans.proofs.TightLaws.{starts_not, starts_fit, tight_out_lem}
use Rattle.plans.proofs.tight.tight_plan.Goals as goal

pub returns-then-plan-kept_count-clause-answer : goal.returns-then-plan-kept_count-clause-answer
returns-then-plan-kept_count-clause-answer c = starts_not _ _ _ (omega arith)

pub returns-then-plan-kept_count-clause-plan : goal.returns-then-plan-kept_count-clause-plan
returns-then-plan-kept_count-clause-plan c = tight_out_lem _ _ (omega arith)

pub returns-clause-answer : goal.returns-clause-answer
returns-clause-answer c = starts_fit _ _ _ _ (omega arith) c.lay_tight.ensures.end

pub returns-clause-plan : goal.returns-clause-plan
returns-clause-plan c = c.lay_tight.ensures.plan
