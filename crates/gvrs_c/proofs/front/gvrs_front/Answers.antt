-- `gvrs_c::front::gvrs_front` meets its contract. Assumes nothing.
use Rattle.gvrs_c.proofs.ReportLaws.{laid_handed}
use Rattle.gvrs_c.proofs.front.gvrs_front.Goals as goal

pub returns : goal.returns
returns c = let all_of = laid_handed _ _ _ _ _ _ _ c.make-x.ensures.answer c.make-x.ensures.buffer c.tell_laid.ensures.number c.tell_laid.ensures.length in record { number = all_of.0; length = all_of.1.0; buffer = all_of.1.1 }
