-- Req 07: many reads after one check. What is said of all cells of an element in a tile is held, with the memory that was lent for the
-- unpacked ones, and each cell is told from that. All of it is defined on any bytes and for anything that may be held; on an accepted
-- file it is the cell's meaning. `m` is the memory, `ci` the compressor index that the caller names.
use Rattle.std.specs.Prelude.{ℕ, ◌+◌, ◌<◌, ◌≡◌, List, [], ◌∷◌, true, eqb, length, get_or, Err, Ok, Result}
use Rattle.answer.specs.declared.Refusal.{Refusal}
use Rattle.wire.specs.Pick.{pick}
use Rattle.wire.specs.Tests.{◌≤?◌, passes}
use Rattle.wire.specs.Bytes.{put}
use Rattle.answer.specs.declared.Refusal.TheVariants.{Directory}
use Rattle.answer.specs.declared.Cell.{Cell}
use Rattle.answer.specs.declared.Cell.TheVariants as cell
use Rattle.answer.specs.declared.Held.{Held}
use Rattle.answer.specs.declared.Held.TheVariants as held
use Rattle.answer.specs.Values.{value_of}
use Rattle.answer.specs.Answers.{held_kind}
use Rattle.header.specs.Fields.{element_count}
use Rattle.header.specs.Element.{element}
use Rattle.geometry.specs.Tiles.{tile_count, cell_tile, cell_inside}
use Rattle.geometry.specs.Sizes.{cell_offset}
use Rattle.bodies.specs.TileDirectory.{tile_directory_at}
use Rattle.page_check.specs.Stages.{check}
use Rattle.cells.specs.Asked.{in_grid}
use Rattle.cells.specs.TileCells.{stored_for, unpacked_bits}
use Rattle.tile_routes.specs.Ways.{referred_to}
use Rattle.cells.specs.Meaning.{meaning}
use Rattle.cells.specs.inner.Lookups.{guarded, looked_up, looked_up_room}

-- what is held of element e in a tile by the file's own directory, where the memory has `room` numbers
unfoldable pub held_by_directory : List ℕ → ℕ → ℕ → ℕ → ℕ → Result Held Refusal
held_by_directory s ci tile e room = looked_up_room s ci (referred_to s (tile_directory_at s)) tile e room

-- a stored cell of a type code, by where its element's content starts, its tile and its number inside that: 9 where that start is past the
-- file
unfoldable pub stored_from : List ℕ → ℕ → ℕ → ℕ → ℕ → Result Cell Refusal
stored_from s kind at tile inside =
    pick (passes ((at + 1 ≤? length s) ∷ []))
    (stored_for kind (record { tile = tile; inside = inside }) s (at + cell_offset kind inside) (at + cell_offset kind inside))
    (Err Directory)

-- the cell with a number inside its tile, of an element of a type code and a fill, by what is held, without a look at the grid: stored, from
-- the memory, the fill, or refused as all are. Cells that are looked up by themselves have no such answer: 9
unfoldable pub numbered_cell : List ℕ → ℕ → ℕ → List ℕ → ℕ → ℕ → Result Held Refusal → Result Cell Refusal
numbered_cell s kind fill m tile inside (Ok (held.Stored at)) = stored_from s kind at tile inside
numbered_cell s kind fill m tile inside (Ok (held.Unpacked at)) = Ok (cell.Unpacked (value_of kind (get_or m inside 0)) at (record { tile = tile; inside = inside }))
numbered_cell s kind fill m tile inside (Ok held.Absent) = Ok (cell.Fill (value_of kind fill) (record { tile = tile; inside = inside }))
numbered_cell s kind fill m tile inside (Ok held.Alone) = Err Directory
numbered_cell s kind fill m tile inside (Err r) = Err r

-- a cell, by what is held: looked up by itself, or by its number inside the tile
unfoldable pub told_by : List ℕ → ℕ → List ℕ → ℕ → ℕ → ℕ → Result Held Refusal → Result Cell Refusal
told_by s ci m row column e x =
    pick (eqb (held_kind x) 0)
    (looked_up s ci (referred_to s (tile_directory_at s)) row column e)
    (numbered_cell s (element s e).kind (element s e).fill m (cell_tile s row column) (cell_inside s row column) x)

-- 10 outside the grid; then 9 where the sides are not lawful
unfoldable pub held_cell : List ℕ → ℕ → Result Held Refusal → List ℕ → ℕ → ℕ → ℕ → Result Cell Refusal
held_cell s ci x m row column e = guarded Err (in_grid s row column e) s (told_by s ci m row column e x)

-- what is held gives the meaning of each cell of the tile; and where it has a kind, which cells that are looked up by themselves lack, the
-- number inside the tile does
pub record Holds (s : List ℕ) (ci tile e : ℕ) (x : Result Held Refusal) (m : List ℕ) : Type 0 where
  pub each : (row column : ℕ) → in_grid s row column e ≡ true → cell_tile s row column ≡ tile → held_cell s ci x m row column e ≡ meaning s ci row column e
  pub numbered :
      (held_kind x ≡ 0 → ⊥) → (row column : ℕ) → in_grid s row column e ≡ true → cell_tile s row column ≡ tile →
      numbered_cell s (element s e).kind (element s e).fill m tile (cell_inside s row column) x ≡ meaning s ci row column e

-- so on an accepted file, whatever memory is lent
abbrev pub HoldsAccepted : Type 0
HoldsAccepted =
    (s : List ℕ) → check s ≡ Ok tt → (ci tile e : ℕ) (m : List ℕ) → tile < tile_count s → e < element_count s →
    Holds s ci tile e (held_by_directory s ci tile e (length m)) (put m 0 (unpacked_bits s e (held_by_directory s ci tile e (length m))))
