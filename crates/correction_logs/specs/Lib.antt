-- Req 14: correction logs, byte by byte. No word of a page.
-- The pages stand in the order in which to read them.
pub mod Log
pub mod Samples
