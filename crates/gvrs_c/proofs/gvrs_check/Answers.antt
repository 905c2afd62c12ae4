-- `gvrs_c::gvrs_check` meets its contract. Assumes nothing.
use Rattle.gvrs_c.proofs.ReportLaws.{checked}
use Rattle.gvrs_c.proofs.gvrs_check.Goals as goal

pub returns : goal.returns
returns c = let all_of = checked _ _ _ _ _ _ c.check-verdict.ensures c.verdict_place.ensures c.report.ensures c.verdict_number.ensures in record { number = all_of.0; place = all_of.1 }
