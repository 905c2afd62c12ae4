-- Document 01, 'Finding a cell' and refusal 10: what may be asked for. Rows, columns, tiles and elements count from 0.
use Rattle.std.specs.Prelude.{ℕ, ◌+◌, List, [], ◌∷◌, Bool}
use Rattle.wire.specs.Tests.{◌≤?◌, passes}
use Rattle.header.specs.Fields.{grid_rows, grid_columns, element_count}
use Rattle.geometry.specs.Tiles.{tile_count}

-- a cell of the grid: a row, a column and an element number
unfoldable pub in_grid : List ℕ → ℕ → ℕ → ℕ → Bool
in_grid s row column e = passes ((row + 1 ≤? grid_rows s) ∷ (column + 1 ≤? grid_columns s) ∷ (e + 1 ≤? element_count s) ∷ [])

-- an element of a tile, by tile index and element number
unfoldable pub in_tiles : List ℕ → ℕ → ℕ → Bool
in_tiles s tile e = passes ((tile + 1 ≤? tile_count s) ∷ (e + 1 ≤? element_count s) ∷ [])
