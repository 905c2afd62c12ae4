-- `gvrs_c::squeezing::gvrs_tight_plan` meets its contract. Assumes nothing.
use Rattle.gvrs_c.proofs.ReportLaws.{stopped_handed}
use Rattle.gvrs_c.proofs.squeezing.gvrs_tight_plan.Goals as goal

pub returns : goal.returns
returns c = let all_of = stopped_handed _ _ _ _ _ _ _ _ _ c.tight_plan-x.ensures.answer c.tight_plan-x.ensures.starts c.tight_plan-x.ensures.plan c.tell_laid_and.ensures.number c.tell_laid_and.ensures.numbers in record { number = all_of.0; numbers = all_of.1.0; plan = all_of.1.1 }
