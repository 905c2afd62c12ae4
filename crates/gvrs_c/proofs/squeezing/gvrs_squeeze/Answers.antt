-- `gvrs_c::squeezing::gvrs_squeeze` meets its contract. Assumes nothing.
use Rattle.gvrs_c.proofs.ReportLaws.{laid_handed}
use Rattle.gvrs_c.proofs.squeezing.gvrs_squeeze.Goals as goal

pub returns : goal.returns
returns c = let a = laid_handed _ _ _ _ _ _ _ c.squeeze_page-x.ensures.answer c.squeeze_page-x.ensures.buffer c.tell_laid.ensures.number c.tell_laid.ensures.length in record { number = a.0; length = a.1.0; buffer = a.1.1; plan = c.squeeze_page-x.ensures.plan }
