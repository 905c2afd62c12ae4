-- What the calls that correct a page make of it: definitions and proofs, no code.
-- The pages stand in the order in which to read them.
pub mod Sequence
pub mod Placing
pub mod Refusals
pub mod Cells
