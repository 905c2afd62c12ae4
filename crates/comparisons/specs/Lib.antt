-- What is said of two pages that are compared cell by cell, and what an answer tells. A page is known by the store's face alone; what a
-- list by rows is stands in `row_lists`.
-- The pages stand in the order in which to read them.
pub mod Comparisons
pub mod Sound
pub mod Samples
