-- The laying down of a page: the file byte for byte, the answer and the buffer, what inner writers rely on; a score sheet moved into a
-- page.
-- The pages stand in the order in which to read them.
pub mod Page
pub mod Answer
pub mod Ready
pub mod Sheet
