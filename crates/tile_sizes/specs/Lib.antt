-- The uncompressed sizes of a tile's elements, as the writers of tile records take them.
pub mod TileSizes
