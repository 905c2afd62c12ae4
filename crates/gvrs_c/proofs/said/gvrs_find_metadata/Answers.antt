-- `gvrs_c::said::gvrs_find_metadata` meets its contract. Assumes nothing.
use Rattle.answer.specs.Answers.{lookup_kind, lookup_number}
use Rattle.gvrs_c.proofs.ReportLaws.{one_told}
use Rattle.gvrs_c.proofs.said.gvrs_find_metadata.Goals as goal

pub returns : goal.returns
returns c = let all_of = one_told lookup_kind lookup_number _ _ _ _ _ _ c.find_metadata-found.ensures c.lookup_number.ensures c.report.ensures c.lookup_kind.ensures in record { kind = all_of.0; number = all_of.1 }
