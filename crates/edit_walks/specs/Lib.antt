-- The walks over the records of a page that correcting it takes: what they free and join, and where a new record goes.
-- The pages stand in the order in which to read them; `Runs` only serves the walks.
pub mod Walks
pub mod Runs
