-- `gvrs_c::said::tell_listed` meets its contract. Assumes nothing.
use Rattle.gvrs_c.proofs.ReportLaws.{two_put}
use Rattle.gvrs_c.proofs.said.tell_listed.Goals as goal

pub returns-clause-number : goal.returns-clause-number
returns-clause-number c = c.listed_number.ensures

pub returns-clause-numbers : goal.returns-clause-numbers
returns-clause-numbers c = two_put _ _ _ _ _ _ _ c.listed_first.ensures c.report.ensures c.listed_more.ensures c.report-2.ensures
