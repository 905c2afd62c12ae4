-- `gvrs_c::tell_laid_and` meets its contract. Assumes nothing.
use mathlib.Core.Path.{refl}
use Rattle.gvrs_c.proofs.ReportLaws.{two_put}
use Rattle.gvrs_c.proofs.tell_laid_and.Goals as goal

pub returns-clause-number : goal.returns-clause-number
returns-clause-number c = c.laid_number.ensures

pub returns-clause-numbers : goal.returns-clause-numbers
returns-clause-numbers c = two_put _ _ _ _ _ _ _ c.laid_report.ensures c.report.ensures refl c.report-2.ensures
