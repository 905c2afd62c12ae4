-- `edit_walks::stored::tile_referred` meets its contract. Assumes nothing.
use Rattle.edit_walks.proofs.StoredLaws.{referred_none, referred_at, referred_not}
use Rattle.edit_walks.proofs.stored.tile_referred.Goals as goal

pub is_tile-requires : goal.is_tile-requires
is_tile-requires c = c.byte_off.ensures.is

pub returns-then-is_tile : goal.returns-then-is_tile
returns-then-is_tile c = referred_at _ _ _ c.tile_directory_at-at.ensures c.found_by.ensures _ c.in-Some.is c.is_tile.ensures c.if-is_tile.true

pub returns-in-None : goal.returns-in-None
returns-in-None c = referred_none _ _ _ c.tile_directory_at-at.ensures c.found_by.ensures c.in-None.is

pub returns-else-is_tile : goal.returns-else-is_tile
returns-else-is_tile c = referred_not _ _ _ c.tile_directory_at-at.ensures c.found_by.ensures _ c.in-Some.is c.is_tile.ensures c.if-is_tile.false
