-- The refusals, values and answers, with number, kind, place, value and length of each case.
-- The pages stand in the order in which to read them.
pub mod Refusals
pub mod Values
pub mod Answers
