-- The listing of a file, byte for byte.
-- The pages stand in the order in which to read them.
pub mod Text
pub mod Listing
pub mod Puts
pub mod Sample
