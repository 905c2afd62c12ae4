-- `gvrs_c::gvrs_check_start` meets its contract. Assumes nothing.
use Rattle.gvrs_c.proofs.ReportLaws.{start_told}
use Rattle.gvrs_c.proofs.gvrs_check_start.Goals as goal

pub returns : goal.returns
returns c = let all_of = start_told _ _ _ _ _ _ _ _ _ c.check_start-verdict.ensures c.verdict_number-number.ensures c.verdict_place.ensures c.report.ensures c.start_needs.ensures c.report-2.ensures in record { number = all_of.0; place = all_of.1 }
