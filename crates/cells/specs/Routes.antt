-- Document 01, 'Finding a cell': three ways from a tile index to the tile's record, none of which mentions another, and what a cell or
-- an element's content is by a way.
use Rattle.std.specs.Prelude.{ℕ, List, Err, Option, Result}
use Rattle.answer.specs.declared.Extent.{Extent}
use Rattle.wire.specs.Pick.{pick}
use Rattle.answer.specs.declared.Refusal.{Refusal}
use Rattle.answer.specs.declared.Refusal.TheVariants.{OutsideGrid}
use Rattle.answer.specs.declared.Cell.{Cell}
use Rattle.answer.specs.declared.Cell.TheVariants as cell
use Rattle.answer.specs.declared.Held.{Held}
use Rattle.answer.specs.declared.Held.TheVariants as held
use Rattle.geometry.specs.Tiles.{cell_tile}
use Rattle.cells.specs.Asked.{in_grid, in_tiles}
use Rattle.cells.specs.TileCells.{cell_of, content_of, held_of}

-- a cell, by a way: outside the grid it is 10, place 0
unfoldable pub cell_by : List ℕ → ℕ → (ℕ → Option ℕ) → ℕ → ℕ → ℕ → Result Cell Refusal
cell_by s ci way row column e =
    pick (in_grid s row column e) (cell_of s ci row column e (way (cell_tile s row column))) (Err OutsideGrid)

-- what is said of an element in a tile, by a way, as the kind of answer that is asked for: where there is no such, 10, place 0
unfoldable pub tile_by : {A : Type 0} → (Refusal → A) → (Option ℕ → A) → List ℕ → (ℕ → Option ℕ) → ℕ → ℕ → A
tile_by refused said s way tile e = pick (in_tiles s tile e) (said (way tile)) (refused OutsideGrid)

-- its content
abbrev pub content_by : List ℕ → (ℕ → Option ℕ) → ℕ → ℕ → Result (Option Extent) Refusal
content_by s way tile e = tile_by Err (content_of s e) s way tile e

-- and all its cells
abbrev pub held_by : List ℕ → ℕ → (ℕ → Option ℕ) → ℕ → ℕ → Result Held Refusal
held_by s ci way tile e = tile_by Err (held_of s ci e) s way tile e
