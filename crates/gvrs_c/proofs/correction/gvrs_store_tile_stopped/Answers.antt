-- `gvrs_c::correction::gvrs_store_tile_stopped` meets its contract. Assumes nothing.
use Rattle.gvrs_c.proofs.ReportLaws.{stopped_handed}
use Rattle.gvrs_c.proofs.correction.gvrs_store_tile_stopped.Goals as goal

pub returns : goal.returns
returns c = let all_of = stopped_handed _ _ _ _ _ _ _ _ _ c.store_tile_stopped-x.ensures.answer c.store_tile_stopped-x.ensures.made c.store_tile_stopped-x.ensures.buffer c.tell_stopped.ensures.number c.tell_stopped.ensures.numbers in record { number = all_of.0; numbers = all_of.1.0; buffer = all_of.1.1 }
