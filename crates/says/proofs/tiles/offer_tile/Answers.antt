-- `says::tiles::offer_tile` meets its contract. Assumes nothing.
use Rattle.says.proofs.TileLaws.{tile_none, tile_none_to, tile_some, tile_some_to}
use Rattle.says.proofs.tiles.offer_tile.Goals as goal

pub returns-then-tile_reference-eq0-clause-is : goal.returns-then-tile_reference-eq0-clause-is
returns-then-tile_reference-eq0-clause-is c = tile_none _ _ _ _ c.tile_reference.ensures _ c.if-tile_reference-eq0.true

pub returns-then-tile_reference-eq0-clause-numbers : goal.returns-then-tile_reference-eq0-clause-numbers
returns-then-tile_reference-eq0-clause-numbers c = tile_none_to _ _ _ _ c.tile_reference.ensures _ c.if-tile_reference-eq0.true

pub offer-requires : goal.offer-requires
offer-requires c = c.requires

pub returns-clause-is : goal.returns-clause-is
returns-clause-is c = tile_some _ _ _ _ c.tile_reference.ensures _ _ _ c.if-tile_reference-eq0.false c.tile_item-item.ensures c.offer.ensures.is

pub returns-clause-numbers : goal.returns-clause-numbers
returns-clause-numbers c = tile_some_to _ _ _ _ c.tile_reference.ensures _ _ _ c.if-tile_reference-eq0.false c.tile_item-item.ensures c.offer.ensures.numbers
