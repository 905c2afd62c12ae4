-- `store::many::hold_accepted` meets its contract. Assumes nothing.
use Rattle.store.proofs.ManyLaws.{held_accepted}
use Rattle.store.proofs.many.hold_accepted.Goals as goal

pub returns : goal.returns
returns c = let all_of = held_accepted _ _ _ _ _ _ _ _ c.look_up_room.ensures.is c.look_up_room.ensures.holds c.tile_directory_at.ensures in record { is = all_of.0; memory = all_of.1.0; holds = all_of.1.1 }
