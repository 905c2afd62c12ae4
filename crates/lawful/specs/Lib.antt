-- What holds of every call that corrects a page, by one theorem with a case for each. What is said of any call, and of calls one behind
-- the other, stands on that theorem.
-- The pages stand in the order in which to read them.
pub mod Marks
pub mod Lawful
