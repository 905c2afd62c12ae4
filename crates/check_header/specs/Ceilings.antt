-- Document 01, 'House ceilings' and stage 4. Each ceiling itself is allowed.
use Rattle.std.specs.Prelude.{ℕ, List, [], ◌∷◌, Bool}
use Rattle.wire.specs.Tests.{◌≤?◌, is, passes}
use Rattle.header.specs.Fields.{grid_rows, grid_columns, tile_rows, tile_columns, element_count}
use Rattle.header.specs.Element.{most_elements}
use Rattle.geometry.specs.Tiles.{tile_count}
use Rattle.geometry.specs.Sizes.{tile_bytes}

-- sides of the grid and of a tile
abbrev pub most_grid_side : ℕ
most_grid_side = 65536

abbrev pub most_tile_side : ℕ
most_tile_side = 4096

-- bytes of the file; tiles; uncompressed bytes of one tile, all elements together. The most elements are `most_elements`
abbrev pub most_file_bytes : ℕ
most_file_bytes = 16777216

abbrev pub most_tiles : ℕ
most_tiles = 65536

abbrev pub most_tile_bytes : ℕ
most_tile_bytes = 1048576

unfoldable pub sides_within : List ℕ → Bool
sides_within s =
    passes
    ((grid_rows s ≤? most_grid_side) ∷ (grid_columns s ≤? most_grid_side) ∷ (tile_rows s ≤? most_tile_side)
    ∷ (tile_columns s ≤? most_tile_side) ∷ [])

unfoldable pub within_ceilings : List ℕ → ℕ → Bool
within_ceilings s n =
    passes
    ((n ≤? most_file_bytes) ∷ is (sides_within s) ∷ (tile_count s ≤? most_tiles) ∷ (element_count s ≤? most_elements)
    ∷ (tile_bytes s ≤? most_tile_bytes) ∷ [])
