-- `edit_walks::stored::stored_over` meets its contract. Assumes nothing.
use Rattle.edit_walks.proofs.StoredLaws.{tile_inside, over_plain, over_absent, over_packed}
use Rattle.edit_walks.proofs.stored.stored_over.Goals as goal

pub is_plain-requires : goal.is_plain-requires
is_plain-requires c = tile_inside _ _ _ c.in-Some.is c.tile_referred.ensures

pub returns-then-is_plain : goal.returns-then-is_plain
returns-then-is_plain c = over_plain _ _ c.tile_referred.ensures _ c.in-Some.is c.is_plain.ensures c.if-is_plain.true

pub returns-in-None : goal.returns-in-None
returns-in-None c = over_absent _ _ c.tile_referred.ensures c.in-None.is

pub returns-else-is_plain : goal.returns-else-is_plain
returns-else-is_plain c = over_packed _ _ c.tile_referred.ensures _ c.in-Some.is c.is_plain.ensures c.if-is_plain.false
