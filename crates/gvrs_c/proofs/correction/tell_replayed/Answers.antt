-- `gvrs_c::correction::tell_replayed` meets its contract. Assumes nothing.
use Rattle.gvrs_c.proofs.ReportLaws.{two_put}
use Rattle.gvrs_c.proofs.correction.tell_replayed.Goals as goal

pub returns-clause-number : goal.returns-clause-number
returns-clause-number c = c.replayed_number.ensures

pub returns-clause-numbers : goal.returns-clause-numbers
returns-clause-numbers c = two_put _ _ _ _ _ _ _ c.replayed_length.ensures c.report.ensures c.replayed_entries.ensures c.report-2.ensures
