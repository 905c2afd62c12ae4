-- Req 13, "Unrefused, a sheet moved there and back has the same bytes; a page moved out and back, with its own front, has the same grid cell
-- values, but a stored tile whose grid cells are all -1 becomes absent and metadata is lost".
pub mod Moves
pub mod Samples
