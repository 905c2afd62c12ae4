-- `gvrs_c::squeezing::gvrs_check_plan` meets its contract. Assumes nothing.
use Rattle.gvrs_c.proofs.ReportLaws.{laid_told}
use Rattle.gvrs_c.proofs.squeezing.gvrs_check_plan.Goals as goal

pub returns : goal.returns
returns c = let all_of = laid_told _ _ _ _ _ c.check_plan-x.ensures c.tell_laid.ensures.number c.tell_laid.ensures.length in record { number = all_of.0; length = all_of.1 }
