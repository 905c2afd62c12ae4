-- The cells of a rectangle in one call, by one check. A page is known by the store's face alone.
-- The pages stand in the order in which to read them; `Pieces` only serves the functions behind the call.
pub mod Rectangles
pub mod Pieces
