-- `gvrs_c::gvrs_find_element` meets its contract. Assumes nothing.
use Rattle.answer.specs.Answers.{lookup_kind, lookup_number}
use Rattle.gvrs_c.proofs.ReportLaws.{one_told}
use Rattle.gvrs_c.proofs.gvrs_find_element.Goals as goal

pub returns : goal.returns
returns c = let all_of = one_told lookup_kind lookup_number _ _ _ _ _ _ c.find_element-found.ensures c.lookup_number.ensures c.report.ensures c.lookup_kind.ensures in record { kind = all_of.0; number = all_of.1 }
