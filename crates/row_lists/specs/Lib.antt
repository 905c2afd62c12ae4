-- What differs between two tables of cells, by row, then column, then element: the list of it, and a list that is filled with it stretch by
-- stretch, in any order of rows. No word of a page.
-- The pages stand in the order in which to read them; `Placing` only serves the functions that write such a list.
pub mod Entries
pub mod Placing
