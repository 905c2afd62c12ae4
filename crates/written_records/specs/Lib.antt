-- The pieces of a record as they are written: a record from its body, a tile record, a tile directory. The lay-down and
-- the calls that correct a page use them, and they know of neither.
-- The pages stand in the order in which to read them.
pub mod Pieces
pub mod Tile
pub mod Directory
