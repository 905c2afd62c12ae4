-- `gvrs_c::correction::gvrs_remove_tile` meets its contract. Assumes nothing.
use Rattle.gvrs_c.proofs.ReportLaws.{laid_handed}
use Rattle.gvrs_c.proofs.correction.gvrs_remove_tile.Goals as goal

pub returns : goal.returns
returns c = let all_of = laid_handed _ _ _ _ _ _ _ c.remove_tile-x.ensures.answer c.remove_tile-x.ensures.buffer c.tell_laid.ensures.number c.tell_laid.ensures.length in record { number = all_of.0; length = all_of.1.0; buffer = all_of.1.1 }
