-- `gvrs_c::squeezing::gvrs_squeeze_stopped` meets its contract. Assumes nothing.
use Rattle.gvrs_c.proofs.ReportLaws.{stopped_handed}
use Rattle.gvrs_c.proofs.squeezing.gvrs_squeeze_stopped.Goals as goal

pub returns : goal.returns
returns c = let a = stopped_handed _ _ _ _ _ _ _ _ _ c.squeeze_page_stopped-x.ensures.answer c.squeeze_page_stopped-x.ensures.made c.squeeze_page_stopped-x.ensures.buffer c.tell_stopped.ensures.number c.tell_stopped.ensures.numbers in record { number = a.0; numbers = a.1.0; buffer = a.1.1; plan = c.squeeze_page_stopped-x.ensures.plan }
