-- `gvrs_c::said::gvrs_tiles` meets its contract. Assumes nothing.
use Rattle.gvrs_c.proofs.SaidLaws.{listed_handed}
use Rattle.gvrs_c.proofs.said.gvrs_tiles.Goals as goal

pub returns : goal.returns
returns c = let all_of = listed_handed _ _ _ _ _ _ _ c.tiles-x.ensures.is c.tiles-x.ensures.numbers c.tell_listed.ensures.number c.tell_listed.ensures.numbers in record { number = all_of.0; told = all_of.1.0; numbers = all_of.1.1 }
