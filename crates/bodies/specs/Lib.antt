-- Where the fields stand in the body of each kind of record. Nothing is judged here.
-- The pages stand in the order in which to read them.
pub mod TileRecord
pub mod MetadataRecord
pub mod TileDirectory
pub mod ListDirectories
