-- Req 01: what the compressor index changes, and what it does not. `ci` is the index that the caller names.
use Rattle.std.specs.Prelude.{ℕ, ◌<◌, ◌≡◌, List, true, ◌⊎◌, length, get_or, Err, Ok, Result}
use Rattle.answer.specs.declared.Refusal.{Refusal}
use Rattle.wire.specs.Pick.{pick}
use Rattle.wire.specs.Bytes.{Bytes}
use Rattle.answer.specs.declared.Refusal.TheVariants.{Compressed, Malformed}
use Rattle.answer.specs.declared.Value.{Value}
use Rattle.answer.specs.declared.Location.{Location}
use Rattle.answer.specs.declared.Held.{Held}
use Rattle.answer.specs.Answers.{cell_kind, cell_bits, cell_verdict, held_kind, held_verdict}
use Rattle.answer.specs.declared.Cell.TheVariants.{Unpacked}
use Rattle.bodies.specs.TileRecord.{element_content_at}
use Rattle.geometry.specs.Tiles.{cell_tile, cell_inside}
use Rattle.page_check.specs.Stages.{check}
use Rattle.cells.specs.Asked.{in_grid}
use Rattle.cells.specs.TileCells.{location_of, packed, place_in, stored_at, cell_in, content_in, held_bits, held_count}
use Rattle.cells.specs.Meaning.{meaning, held_meaning}

-- an index above 255 is no content's, so a record says of a cell what document 01 says: 11 at the record's start where it is compressed,
-- else it is stored
abbrev pub OldReads : Type 0
OldReads =
    (s : List ℕ) (ci x row column e : ℕ) → 255 < ci →
    cell_in s ci x row column e ≡ pick (packed s x e) (Err (Compressed x)) (stored_at s (location_of s row column) e (place_in s x row column e))

-- 'The content part stays 11': what is said of an element's content has no index
abbrev pub ContentStays : Type 0
ContentStays = (s : List ℕ) (x e : ℕ) → packed s x e ≡ true → content_in s x e ≡ Err (Compressed x)

-- only a compressed cell is unpacked, and its place is the start of its element's content; only a compressed cell is 14, at its tile
-- record's start
pub record OnlyPacked (s : List ℕ) (ci x row column e : ℕ) : Type 0 where
  pub unpacked : (v : Value) (place : ℕ) (w : Location) → cell_in s ci x row column e ≡ Ok (Unpacked v place w) → (packed s x e ≡ true) × (place ≡ element_content_at s x e)
  pub malformed : (y : ℕ) → cell_in s ci x row column e ≡ Err (Malformed y) → (packed s x e ≡ true) × (y ≡ x)

abbrev pub UnpackedWhere : Type 0
UnpackedWhere = (s : List ℕ) (ci x row column e : ℕ) → OnlyPacked s ci x row column e

-- what is said of all cells of an element in a tile is what is said of each: their kind is its kind, their refusal its refusal, and its
-- bits stand among theirs at its number inside the tile
pub record EachCell (s : List ℕ) (ci row column e : ℕ) (h : Result Held Refusal) : Type 0 where
  pub kind : cell_kind (meaning s ci row column e) ≡ held_kind h
  pub verdict : cell_verdict (meaning s ci row column e) ≡ held_verdict h
  pub bits : Bytes s → (held_kind h ≡ 32) ⊎ (held_kind h ≡ 34) → cell_bits (meaning s ci row column e) ≡ get_or (held_bits s e h) (cell_inside s row column) 0

abbrev pub HeldEach : Type 0
HeldEach =
    (s : List ℕ) → check s ≡ Ok tt → (ci row column e : ℕ) → in_grid s row column e ≡ true →
    EachCell s ci row column e (held_meaning s ci (cell_tile s row column) e)

-- and there are as many bits as cells
abbrev pub HeldCounted : Type 0
HeldCounted = (s : List ℕ) (ci tile e : ℕ) → length (held_bits s e (held_meaning s ci tile e)) ≡ held_count s (held_meaning s ci tile e)
