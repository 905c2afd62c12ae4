-- Stages 6 to 8 of the check: the chain, the checksums, the bodies of tile and metadata records.
--
-- The length of a tile record is said twice. Stage 8 finds the fields one behind the other and asks for the least length that holds
-- them (`end_right`); the sample sums add up sizes (`tile_length`). `LeastTileLength` joins the two, compressed elements included, so
-- the sums are proved of what stage 8 asks, and not of a formula beside it.
-- The pages stand in the order in which to read them.
pub mod Frame
pub mod Checksum
pub mod TileBody
pub mod MetadataBody
pub mod Faults
