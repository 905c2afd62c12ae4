-- What the C interface hands back.
-- The pages stand in the order in which to read them.
pub mod Report
pub mod Route
pub mod Description
pub mod Explanation
