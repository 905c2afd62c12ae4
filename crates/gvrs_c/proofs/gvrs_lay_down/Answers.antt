-- `gvrs_c::gvrs_lay_down` meets its contract. Assumes nothing.
use Rattle.gvrs_c.proofs.ReportLaws.{laid_handed}
use Rattle.gvrs_c.proofs.gvrs_lay_down.Goals as goal

pub returns : goal.returns
returns c = let all_of = laid_handed _ _ _ _ _ _ _ c.lay_down-laid.ensures.answer c.lay_down-laid.ensures.buffer c.tell_laid.ensures.number c.tell_laid.ensures.length in record { number = all_of.0; length = all_of.1.0; buffer = all_of.1.1 }
