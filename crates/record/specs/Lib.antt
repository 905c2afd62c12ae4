-- Records, the cursor over them, and their chain as a list.
--
-- `record_limit` bounds every counted list in a record whose items vary in length: an item that starts past it is not read, nor any
-- behind it (`advance`). So no count and no length makes a loop run past its record or the file; a count of 2147483647 ends at once.
-- Items only move forward, so one test of the last one's end shows that all fit. An item that starts exactly at the limit is still
-- read, which decides nothing: its end lies past it.
-- The pages stand in the order in which to read them.
pub mod Types
pub mod Record
pub mod Chain
pub mod Asked
pub mod Walk
