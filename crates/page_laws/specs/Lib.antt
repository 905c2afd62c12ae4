-- What the theorems on the calls speak of: the tiles of a page, what calls keep (`Follows`, `InPlace`), and the tiles by the page's pieces.
-- The pages stand in the order in which to read them.
pub mod Tiles
pub mod TileMap
pub mod TilesKept
