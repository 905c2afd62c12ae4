-- `cells::held::hold_in` meets its contract. Assumes nothing.
use Rattle.cells.proofs.HeldLaws.{held_stored, held_packed, held_alone, held_unpacked, held_malformed}
use Rattle.cells.proofs.held.hold_in.Goals as goal

pub returns-then-room-tile_cells_of : goal.returns-then-room-tile_cells_of
returns-then-room-tile_cells_of c = let all_of = held_alone _ _ _ _ _ _ c.is_packed.ensures _ _ c.if-is_packed.true _ c.is_unpackable.ensures c.if-is_unpackable.true _ c.tile_cells_of.ensures c.if-room-tile_cells_of.true in record { is = all_of.0; holds = all_of.1 }

pub returns-then-put_unpacked : goal.returns-then-put_unpacked
returns-then-put_unpacked c = let all_of = held_unpacked _ _ _ _ _ _ c.is_packed.ensures _ _ c.if-is_packed.true _ c.is_unpackable.ensures c.if-is_unpackable.true _ c.tile_cells_of.ensures c.if-room-tile_cells_of.false _ _ c.put_unpacked.ensures.whole c.put_unpacked.ensures.holds _ c.section-at.ensures.is c.if-put_unpacked.true in record { is = all_of.0; holds = all_of.1 }

pub returns-then-is_unpackable : goal.returns-then-is_unpackable
returns-then-is_unpackable c = let all_of = held_malformed _ _ _ _ _ _ c.is_packed.ensures _ _ c.if-is_packed.true _ c.is_unpackable.ensures c.if-is_unpackable.true _ c.tile_cells_of.ensures c.if-room-tile_cells_of.false _ _ c.put_unpacked.ensures.whole c.put_unpacked.ensures.holds c.if-put_unpacked.false in record { is = all_of.0; holds = all_of.1 }

pub returns-then-is_packed : goal.returns-then-is_packed
returns-then-is_packed c = let all_of = held_packed _ _ _ _ _ _ c.is_packed.ensures _ _ c.if-is_packed.true _ c.is_unpackable.ensures c.if-is_unpackable.false in record { is = all_of.0; holds = all_of.1 }

pub returns : goal.returns
returns c = let all_of = held_stored _ _ _ _ _ _ c.is_packed.ensures _ _ _ c.section-at.ensures.is c.if-is_packed.false in record { is = all_of.0; holds = all_of.1 }
