-- A page from nothing: definitions and proofs, no code. It joins a front that is made from a description with the lay-down, and stands above
-- both.
-- The pages stand in the order in which to read them.
pub mod NewPage
pub mod Fronts
pub mod Samples
