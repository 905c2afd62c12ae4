-- Squeezing an open page (Req 11): what is put for a record that is read from the buffer, and when records may be moved. What a plan is,
-- what it makes of a page, and by which byte stores, stands in `correct`; what a plan holds while records move, in `plans`.
-- The pages stand in the order in which to read them.
pub mod Fields
pub mod Kept
pub mod Ready
