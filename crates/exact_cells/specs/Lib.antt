-- A page with compressed tiles, byte by byte, how it reads, and which readers it shuts out. What a cell is, exactly, is said in `cells`
-- (`CellExactly`) and proved here.
-- The pages stand in the order in which to read them.
pub mod PackedPage
pub mod PackedReads
pub mod WrongReaders
