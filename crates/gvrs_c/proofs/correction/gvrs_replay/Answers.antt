-- `gvrs_c::correction::gvrs_replay` meets its contract. Assumes nothing.
use Rattle.gvrs_c.proofs.ReportLaws.{replayed_handed}
use Rattle.gvrs_c.proofs.correction.gvrs_replay.Goals as goal

pub returns : goal.returns
returns c = let all_of = replayed_handed _ _ _ _ _ _ _ c.replay-x.ensures.answer c.replay-x.ensures.buffer c.tell_replayed.ensures.number c.tell_replayed.ensures.numbers in record { number = all_of.0; numbers = all_of.1.0; buffer = all_of.1.1 }
