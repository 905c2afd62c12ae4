-- M32 codes: numbers of 32 bits as one to six bytes, read from any source of bytes, and written; that they come back, and share no bytes.
-- The pages stand in the order in which to read them.
pub mod M32
pub mod Back
pub mod Samples
