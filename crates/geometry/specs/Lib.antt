-- Where a cell lies, how many bytes things take, and document 01's sums of both.
--
-- A tile's sides are four-byte numbers, so U of unchecked bytes can pass 64 bits. The functions that answer U, or a sum of such,
-- answer `cap` where it is more. No four-byte length L can tell the difference, and the ceiling of 1,048,576 bytes neither.
-- The pages stand in the order in which to read them.
pub mod Tiles
pub mod Sizes
pub mod Samples
