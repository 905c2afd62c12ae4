-- Req 13: score sheets, byte by byte, and their scores by row and column. No word of a page.
-- The pages stand in the order in which to read them.
pub mod Sheet
pub mod Parts
