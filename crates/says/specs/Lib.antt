-- What a page says of itself: its stored tiles, its metadata records and the names of its compression methods, as lists of numbers, the
-- look-up of a metadata record by its name and ID, and what its header says of it and of its elements.
-- The pages stand in the order in which to read them.
pub mod Lists
pub mod Methods
pub mod Metadata
pub mod Tiles
pub mod Further
pub mod InFile
