-- Req 13: a page moved out to a score sheet.
-- The pages stand in the order in which to read them.
pub mod Back
pub mod First
pub mod Rows
