-- Document 01, 'Finding a cell'. Rows, columns and tiles count from 0.
use Rattle.std.specs.Prelude.{ℕ, ◌+◌, ◌*◌, ◌/◌, ◌%◌, ◌-◌, List}
use Rattle.header.specs.Fields.{grid_rows, grid_columns, tile_rows, tile_columns}

-- the tiles that a side of the grid takes: it divided by the tile's side, rounded up
unfoldable pub tiles_along : ℕ → ℕ → ℕ
tiles_along side tile = (side + (tile - 1)) / tile

-- the tile of the cell (r, c), of tiles of h rows and w columns, `across` of them in a row of tiles
unfoldable pub tile_of : ℕ → ℕ → ℕ → ℕ → ℕ → ℕ
tile_of h w across r c = r / h * across + c / w

-- the cell's number inside its tile
unfoldable pub inside_of : ℕ → ℕ → ℕ → ℕ → ℕ
inside_of h w r c = r % h * w + c % w

-- the tiles of a grid of so many rows and columns
unfoldable pub tiles_in : ℕ → ℕ → ℕ → ℕ → ℕ
tiles_in rows columns h w = tiles_along rows h * tiles_along columns w

-- the tile of a cell, of a grid of so many columns
unfoldable pub tile_in : ℕ → ℕ → ℕ → ℕ → ℕ → ℕ
tile_in columns h w r c = tile_of h w (tiles_along columns w) r c

-- the same of a file
unfoldable pub tiles_across : List ℕ → ℕ
tiles_across s = tiles_along (grid_columns s) (tile_columns s)

unfoldable pub tiles_down : List ℕ → ℕ
tiles_down s = tiles_along (grid_rows s) (tile_rows s)

unfoldable pub tile_count : List ℕ → ℕ
tile_count s = tiles_in (grid_rows s) (grid_columns s) (tile_rows s) (tile_columns s)

unfoldable pub cell_tile : List ℕ → ℕ → ℕ → ℕ
cell_tile s r c = tile_in (grid_columns s) (tile_rows s) (tile_columns s) r c

unfoldable pub cell_inside : List ℕ → ℕ → ℕ → ℕ
cell_inside s r c = inside_of (tile_rows s) (tile_columns s) r c
