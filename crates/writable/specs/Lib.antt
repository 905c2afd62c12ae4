-- A page that is open for writing, and a sound page as its front and its pieces.
--
-- `open_for_writing` is what refusal 15 asks. It is said a second time in plain facts (`Open`), as `Obeys` says what an accepted file is:
-- over a list of records, so that a writer need not read back what it has put.
-- The pages stand in the order in which to read them.
pub mod Writable
pub mod Parts
