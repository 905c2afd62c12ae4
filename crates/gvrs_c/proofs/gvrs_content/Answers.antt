-- `gvrs_c::gvrs_content` meets its contract. Assumes nothing.
use Rattle.gvrs_c.proofs.ReportLaws.{content_told}
use Rattle.gvrs_c.proofs.gvrs_content.Goals as goal

pub returns : goal.returns
returns c = let all_of = content_told _ _ _ _ _ _ _ _ c.content-content.ensures c.content_place.ensures c.report.ensures c.content_length.ensures c.report-2.ensures c.content_kind.ensures in record { kind = all_of.0; part = all_of.1 }
