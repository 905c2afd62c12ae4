-- Correcting a page where it lies (Req 03, Req 11): what each of the five calls makes of a page, what it answers, and the byte stores by which
-- it does so (Req 05).
--
-- A page is the first n bytes of a lent buffer: its front, and behind it its pieces, the records as lists of bytes. A call changes some
-- pieces and answers the page's new length, or a refusal. The first pages say what a page becomes, `Answers` when a call is refused;
-- a reader may stop there. The lists of writes are the same said byte store by byte store, in the order in which they are made.
-- The pages stand in the order in which to read them.
pub mod Front
pub mod Opening
pub mod Storing
pub mod Removing
pub mod Closing
pub mod Plan
pub mod Renamed
pub mod Squeezing
pub mod Answers
pub mod RecordWrites
pub mod FieldWrites
pub mod Writes
pub mod Calls
