-- `gvrs_c::sheet::gvrs_sheet_in` meets its contract. Assumes nothing.
use Rattle.gvrs_c.proofs.ReportLaws.{moved_handed}
use Rattle.gvrs_c.proofs.sheet.gvrs_sheet_in.Goals as goal

pub returns : goal.returns
returns c = let all_of = moved_handed _ _ _ _ _ _ _ _ c.lay_down_sheet-x.ensures.answer c.lay_down_sheet-x.ensures.buffer c.tell_laid.ensures.number c.tell_laid.ensures.length in record { number = all_of.0; length = all_of.1.0; buffer = all_of.1.1 }
