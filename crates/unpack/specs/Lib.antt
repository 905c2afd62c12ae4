-- What a compressed content holds, or that it is malformed. `Steps` is what the private functions come to; no rule is made there.
-- The pages stand in the order in which to read them.
pub mod Unpack
pub mod Stood
pub mod Steps
pub mod Samples
