-- `gvrs_c::gvrs_unpack` meets its contract. Assumes nothing.
use Rattle.gvrs_c.proofs.ReportLaws.{held_told}
use Rattle.gvrs_c.proofs.gvrs_unpack.Goals as goal

pub returns : goal.returns
returns c = let all_of = held_told _ _ _ _ _ _ _ _ _ _ _ _ c.hold-held.ensures.is c.hold-held.ensures.holds c.held_place.ensures c.report.ensures c.held_count.ensures c.report-2.ensures c.held_kind.ensures in record { kind = all_of.0; told = all_of.1.0; holds = all_of.1.1 }
