-- Req 07: many reads after one check, for a product that goes through a rectangle of cells tile by tile. What is held of a tile, and a
-- cell told from it, are `held_by_directory`, `held_cell` and `Holds` of `cells`.
use Rattle.std.specs.Prelude.{ℕ, ◌+◌, ◌≡◌, List, [], ◌∷◌, Bool, true, Ok, Result}
use Rattle.answer.specs.declared.Refusal.{Refusal}
use Rattle.wire.specs.Pick.{pick}
use Rattle.wire.specs.Tests.{◌≤?◌, passes}
use Rattle.answer.specs.declared.Cell.{Cell}
use Rattle.answer.specs.Answers.{cell_kind, cell_verdict}
use Rattle.header.specs.Fields.{grid_rows, grid_columns, element_count}
use Rattle.geometry.specs.Tiles.{cell_tile, cell_inside}
use Rattle.page_check.specs.Stages.{check}
use Rattle.cells.specs.Asked.{in_grid}
use Rattle.cells.specs.Meaning.{meaning}

-- the page has the element, and the rectangle from a first row and column on lies in the grid. The sums are of natural numbers, so an
-- empty rectangle may start at the grid's end, and not behind it
unfoldable pub rectangle_inside : List ℕ → ℕ → ℕ → ℕ → ℕ → ℕ → Bool
rectangle_inside s e row column rows columns =
    passes ((e + 1 ≤? element_count s) ∷ (row + rows ≤? grid_rows s) ∷ (column + columns ≤? grid_columns s) ∷ [])

-- the grid has the row and the column
unfoldable pub cell_there : List ℕ → ℕ → ℕ → Bool
cell_there s row column = passes ((row + 1 ≤? grid_rows s) ∷ (column + 1 ≤? grid_columns s) ∷ [])

-- the tile of a cell, and its number inside that; 0 and 0 where the grid has no such row or column
unfoldable pub tile_holding : List ℕ → ℕ → ℕ → ℕ
tile_holding s row column = pick (cell_there s row column) (cell_tile s row column) 0

unfoldable pub number_holding : List ℕ → ℕ → ℕ → ℕ
number_holding s row column = pick (cell_there s row column) (cell_inside s row column) 0

-- two cells of an element in one tile of an accepted file are stored, unpacked, fill or refused alike: one that is absent, compressed or
-- malformed shows that all are
pub record Alike (x y : Result Cell Refusal) : Type 0 where
  pub kind : cell_kind x ≡ cell_kind y
  pub verdict : cell_verdict x ≡ cell_verdict y

abbrev pub TileAlike : Type 0
TileAlike =
    (s : List ℕ) → check s ≡ Ok tt → (ci row column row2 column2 e : ℕ) → in_grid s row column e ≡ true → in_grid s row2 column2 e ≡ true →
    cell_tile s row column ≡ cell_tile s row2 column2 → Alike (meaning s ci row column e) (meaning s ci row2 column2 e)
