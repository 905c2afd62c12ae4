-- `gvrs_c::said::gvrs_metadata` meets its contract. Assumes nothing.
use Rattle.gvrs_c.proofs.SaidLaws.{listed_handed}
use Rattle.gvrs_c.proofs.said.gvrs_metadata.Goals as goal

pub returns : goal.returns
returns c = let all_of = listed_handed _ _ _ _ _ _ _ c.metadata-x.ensures.is c.metadata-x.ensures.numbers c.tell_listed.ensures.number c.tell_listed.ensures.numbers in record { number = all_of.0; told = all_of.1.0; numbers = all_of.1.1 }
