-- What a cell means, the routes to its tile's record, the reads, and an element's content.
--
-- The two routes take the place from which they start: `referred_to` that of the directory's record, `walked_to` the header's end. A
-- read of bytes puts in the bytes' own (`tile_directory_at`, `header_end`), a read on an opened page what the page holds, if that is the
-- same. So both have one definition and one function.
--
-- `ci` is the compressor index that the caller names: compressed content of that index is unpacked (Req 01). It is any number; no
-- content's index is above 255.
--
-- `content` finds the tile's record through the directory, without a pass over the chain. Its contract does not say so: document 01
-- names two routes for a cell and none for an element's content, and a contract that is the meaning leaves the body free.
-- The pages stand in the order in which to read them; `inner` only serves faster bodies and many reads after one check, and no read
-- rests on it.
pub mod Asked
pub mod TileCells
pub mod Routes
pub mod Meaning
pub mod Reads
pub mod Compressor
pub mod Demand2
pub mod Demand3
pub mod CellExactly
pub mod inner
pub mod Many
