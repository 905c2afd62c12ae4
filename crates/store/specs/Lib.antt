-- What an opened page holds and answers, how an element is found by its name, and metadata records by theirs, what a page is in numbers,
-- many reads after one check, and what a product above the store cites.
-- The pages stand in the order in which to read them.
pub mod Opened
pub mod Lookup
pub mod Named
pub mod Description
pub mod Many
pub mod Pieces
pub mod Face
