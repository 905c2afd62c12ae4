-- A page byte by byte, and how it reads.
-- The pages stand in the order in which to read them.
pub mod Page
pub mod Reads
