-- Byte stores into a buffer, in their order, and what it holds when they stop after any number of them.
--
-- A writer is a list of writes, given as a function of what the buffer holds. Run whole it is the call; cut after k byte stores it is
-- what a cut of the power leaves. The budget cuts the length of a bulk copy, so a stopped writer is as fast as a plain one.
-- The pages stand in the order in which to read them.
pub mod Stores
pub mod Writes
