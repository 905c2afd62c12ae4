-- `store::many::hold_lent` meets its contract. Assumes nothing.
use Rattle.store.proofs.ManyLaws.{held_lent}
use Rattle.store.proofs.many.hold_lent.Goals as goal

pub returns : goal.returns
returns c = let all_of = held_lent _ _ _ _ _ _ _ _ c.look_up_lent.ensures.is c.look_up_lent.ensures.holds c.tile_directory_at.ensures in record { is = all_of.0; memory = all_of.1.0; holds = all_of.1.1 }
