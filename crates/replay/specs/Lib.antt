-- Req 14: a correction log replayed on an open page.
-- The pages stand in the order in which to read them.
pub mod Entries
pub mod Replay
pub mod ByHand
pub mod Tiles
