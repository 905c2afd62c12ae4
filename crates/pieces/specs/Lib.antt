-- A page as the list of its records, each as its bytes, and what a call does to that list: records freed and joined, a new record
-- placed, a reference set; which records of a type stand where then. Nothing is judged here.
-- The pages stand in the order in which to read them.
pub mod Pieces
pub mod Edits
pub mod Standing
