-- Document 01, 'Laying down a page', and Req 03: a tile directory of every tile of the grid as it is written.
use Rattle.std.specs.Prelude.{ℕ, zero, suc, List, [], ◌∷◌, ◌++◌}
use Rattle.wire.specs.Bytes.{bytes_of, zeros}
use Rattle.geometry.specs.Tiles.{tiles_across, tiles_down, tile_count}

-- G Table 21: format 0, compact references, six reserved bytes; the rectangle from row 0 and column 0 on, of so many rows and columns
-- of tiles
unfoldable pub directory_form : ℕ → ℕ → List ℕ
directory_form down across = (0 ∷ 0 ∷ []) ++ zeros 6 ++ bytes_of 4 0 ++ bytes_of 4 0 ++ bytes_of 4 down ++ bytes_of 4 across

-- the compact references of the first n tiles of the grid, where g gives each: the position of its content divided by 8, 0 for none
unfoldable pub references_of : (ℕ → ℕ) → ℕ → List ℕ
references_of g zero = []
references_of g (suc n) = references_of g n ++ bytes_of 4 (g n)

-- what a directory of every tile of the grid of f holds: the rectangle of all tiles, then the references, row by row
unfoldable pub directory_of : List ℕ → (ℕ → ℕ) → List ℕ
directory_of f g = directory_form (tiles_down f) (tiles_across f) ++ references_of g (tile_count f)
