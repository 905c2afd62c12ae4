-- The ways from a tile index to the tile's record.
pub mod Ways
