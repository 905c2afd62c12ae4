-- Req 13, the way in: a score sheet d, and the page that it becomes with a front f, at a time t.
use Rattle.std.specs.Prelude.{ℕ, ◌*◌, ◌/◌, ◌%◌, ◌≤◌, ◌<◌, ◌≡◌, Bool, true, not, Err, Ok, Result, ⊤}
use Rattle.answer.specs.declared.Refusal.{Refusal}
use mathlib.Core.List.{List, [], ◌∷◌, flat_map}
use Rattle.wire.specs.Tests.{◌≡?◌, is, passes}
use Rattle.wire.specs.Bytes.{bytes_of}
use Rattle.wire.specs.Lists.{select, below}
use Rattle.score_sheets.specs.Sheet.{sheet_rows, sheet_columns, unread, sheet_right}
use Rattle.score_sheets.specs.Parts.{part_scores, part_unread}
use Rattle.answer.specs.declared.Refusal.TheVariants.{Input}
use Rattle.answer.specs.Refusals.{gate, unless_refused}
use Rattle.header.specs.Fields.{grid_rows, grid_columns, tile_rows, tile_columns, element_count}
use Rattle.header.specs.Element.{element, short_kind}
use Rattle.geometry.specs.Tiles.{tiles_across, tile_count}
use Rattle.check_header.specs.Stages.{check_front}
use Rattle.check_header.specs.Ceilings.{most_tiles}
use Rattle.lay_down.specs.Page.{file_length, laid_file}
use Rattle.lay_down.specs.Answer.{input_verdict}

-- "one element only, a Short, and fill -1": asked of a front here, and of a page on the way out
unfoldable pub score_element : List ℕ → Bool
score_element s = passes ((element_count s ≡? 1) ∷ ((element s 0).kind ≡? short_kind) ∷ ((element s 0).fill ≡? unread) ∷ [])

-- "a front that has its grid"
unfoldable pub front_fits : List ℕ → List ℕ → Bool
front_fits f d = passes ((grid_rows f ≡? sheet_rows d) ∷ (grid_columns f ≡? sheet_columns d) ∷ is (score_element f) ∷ [])

-- the first row and the first column of a tile, of which `across` stand in a row of tiles
unfoldable pub tile_top : List ℕ → ℕ → ℕ
tile_top f tile = tile / tiles_across f * tile_rows f

unfoldable pub tile_left : List ℕ → ℕ → ℕ
tile_left f tile = tile % tiles_across f * tile_columns f

-- its scores, by rows; "cells past the grid are -1"
unfoldable pub tile_scores : List ℕ → List ℕ → ℕ → List ℕ
tile_scores f d tile = part_scores d (tile_top f tile) (tile_left f tile) (tile_rows f) (tile_columns f)

-- "tiles all -1 stay absent"
unfoldable pub tile_unread : List ℕ → List ℕ → ℕ → Bool
tile_unread f d tile = part_unread d (tile_top f tile) (tile_left f tile) (tile_rows f) (tile_columns f)

unfoldable pub kept_tiles : List ℕ → List ℕ → List ℕ
kept_tiles f d = select (λ tile. not (tile_unread f d tile)) (below (tile_count f))

-- their cell bytes, as a lay-down takes them
unfoldable pub tile_cells : List ℕ → List ℕ → ℕ → List ℕ
tile_cells f d tile = flat_map (bytes_of 2) (tile_scores f d tile)

unfoldable pub sheet_cells : List ℕ → List ℕ → List ℕ
sheet_cells f d = flat_map (tile_cells f d) (kept_tiles f d)

-- "A bad sheet or front is 12 once the front has passed its own stages. Then the lay-down's refusals in its order."
unfoldable pub sheet_verdict : List ℕ → ℕ → List ℕ → ℕ → Result ⊤ Refusal
sheet_verdict f t d room =
    unless_refused Err (check_front f)
    (gate (sheet_right d) Input (gate (front_fits f d) Input (input_verdict f t (kept_tiles f d) (sheet_cells f d) room)))

-- the answer is the file's length, or the refusal
unfoldable pub sheet_laid : List ℕ → ℕ → List ℕ → ℕ → Result ℕ Refusal
sheet_laid f t d room = unless_refused Err (sheet_verdict f t d room) (Ok (file_length f (kept_tiles f d)))

-- the page is a page laid down
unfoldable pub sheet_file : List ℕ → ℕ → List ℕ → List ℕ
sheet_file f t d = laid_file f t (kept_tiles f d) (sheet_cells f d)

-- what the inner writers rely on: the front passes and has an element of scores, the tile is one of the page's, and what is written
-- ends at `end`
abbrev pub ScoresReady : List ℕ → ℕ → ℕ → ℕ → Type 0
ScoresReady f tile end room = (check_front f ≡ Ok tt) × ((score_element f ≡ true) × ((tile < most_tiles) × (end ≤ room)))
