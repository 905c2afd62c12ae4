-- `gvrs_c::tell_laid` meets its contract. Assumes nothing.
use Rattle.gvrs_c.proofs.ReportLaws.{one_put}
use Rattle.gvrs_c.proofs.tell_laid.Goals as goal

pub returns-clause-number : goal.returns-clause-number
returns-clause-number c = c.laid_number.ensures

pub returns-clause-length : goal.returns-clause-length
returns-clause-length c = one_put _ _ _ _ c.laid_report.ensures c.report.ensures
