-- What the rules of a record depend on, and what an edit of a page keeps: definitions and proofs, no code.
--
-- The check asks its rules of a record where it stands in a file. They depend on the record's own bytes and on a few fields of the
-- header (`Alone`), so they may be asked of the record alone, directly behind a front, and of a page record by record (`ByPieces`). An
-- edit of a page is then judged by what it does to the list of its records (`EditKeeps`).
-- The pages stand in the order in which to read them.
pub mod Alone
pub mod MetadataKept
pub mod Standing
pub mod Edited
pub mod Moves
