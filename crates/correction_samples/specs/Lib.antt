-- Corrections by sample: what the calls make of a few pages, byte by byte, and what they answer; and the rule that a page says.
-- The pages stand in the order in which to read them.
pub mod Listed
pub mod Made
pub mod Answered
pub mod Whole
pub mod Logged
pub mod Ruled
pub mod Squeezed
