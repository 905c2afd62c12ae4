-- For callers that have made the check: a cell and a content without it, on any bytes. No read is defined by it. Where unchecked bytes
-- lead nowhere it is 9; on an accepted file, from the positions that its bytes give, it is the meaning.
use Rattle.std.specs.Prelude.{ℕ, ◌+◌, List, [], ◌∷◌, Bool, true, length, Err, None, Option, Result, Some}
use Rattle.answer.specs.declared.Extent.{Extent}
use Rattle.wire.specs.Pick.{pick}
use Rattle.wire.specs.Tests.{◌≤?◌, is, passes}
use Rattle.answer.specs.declared.Refusal.{Refusal}
use Rattle.answer.specs.declared.Refusal.TheVariants.{Directory, OutsideGrid}
use Rattle.answer.specs.declared.Cell.{Cell}
use Rattle.answer.specs.declared.Cell.TheVariants as cell
use Rattle.answer.specs.declared.Held.{Held}
use Rattle.answer.specs.declared.Held.TheVariants as held
use Rattle.geometry.specs.Tiles.{cell_tile}
use Rattle.check_header.specs.HeaderRecord.{sides_right}
use Rattle.check_header.specs.Ceilings.{sides_within}
use Rattle.cells.specs.Asked.{in_grid, in_tiles}
use Rattle.cells.specs.TileCells.{cell_of, content_of, held_of, room_of}

-- the sides keep stages 3 and 4; so no number of a cell or tile is large
unfoldable pub sides_lawful : List ℕ → Bool
sides_lawful s = passes (is (sides_right s) ∷ is (sides_within s) ∷ [])

-- what a route found starts in the file
abbrev pub in_reach : List ℕ → Option ℕ → Bool
in_reach s None = true
in_reach s (Some x) = passes ((x + 1 ≤? length s) ∷ [])

-- what is said by what was found: 9 where that starts past the file
unfoldable pub reached_by : {A : Type 0} → (Refusal → A) → (Option ℕ → A) → List ℕ → Option ℕ → A
reached_by refused said s f = pick (in_reach s f) (said f) (refused Directory)

abbrev pub cell_reached : List ℕ → ℕ → ℕ → ℕ → ℕ → Option ℕ → Result Cell Refusal
cell_reached s ci row column e f = reached_by Err (cell_of s ci row column e) s f

abbrev pub content_reached : List ℕ → ℕ → Option ℕ → Result (Option Extent) Refusal
content_reached s e f = reached_by Err (content_of s e) s f

abbrev pub room_reached : List ℕ → ℕ → ℕ → ℕ → Option ℕ → Result Held Refusal
room_reached s ci e room f = reached_by Err (room_of s ci e room) s f

-- what is said of a cell or tile: 10 where there is no such; then 9 where the sides are not lawful
unfoldable pub guarded : {A : Type 0} → (Refusal → A) → Bool → List ℕ → A → A
guarded refused there s x = pick there (pick (sides_lawful s) x (refused Directory)) (refused OutsideGrid)

unfoldable pub looked_up : List ℕ → ℕ → (ℕ → Option ℕ) → ℕ → ℕ → ℕ → Result Cell Refusal
looked_up s ci way row column e =
    guarded Err (in_grid s row column e) s (cell_reached s ci row column e (way (cell_tile s row column)))

unfoldable pub looked_tile : {A : Type 0} → (Refusal → A) → (Option ℕ → A) → List ℕ → (ℕ → Option ℕ) → ℕ → ℕ → A
looked_tile refused said s way tile e = guarded refused (in_tiles s tile e) s (reached_by refused said s (way tile))

abbrev pub looked_up_content : List ℕ → (ℕ → Option ℕ) → ℕ → ℕ → Result (Option Extent) Refusal
looked_up_content s way tile e = looked_tile Err (content_of s e) s way tile e

abbrev pub looked_up_held : List ℕ → ℕ → (ℕ → Option ℕ) → ℕ → ℕ → Result Held Refusal
looked_up_held s ci way tile e = looked_tile Err (held_of s ci e) s way tile e

-- with memory for so many unpacked cells
abbrev pub looked_up_room : List ℕ → ℕ → (ℕ → Option ℕ) → ℕ → ℕ → ℕ → Result Held Refusal
looked_up_room s ci way tile e room = looked_tile Err (room_of s ci e room) s way tile e
