-- Numbers in bytes, rules as lists of tests, items one behind the other, lists.
--
-- Reading is total: what does not lie whole in the bytes reads as nothing, or as 0. So no public function needs a precondition, here
-- and in the crates above. That something fits is always tested by itself: a 0 that was read is no evidence of it.
-- The pages stand in the order in which to read them.
pub mod Pick
pub mod Tests
pub mod Bytes
pub mod Big
pub mod Compare
pub mod CompareSamples
pub mod Items
pub mod Lists
