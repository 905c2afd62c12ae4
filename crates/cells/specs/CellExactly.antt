-- What a cell is, exactly: six facts, each both ways, for any row, column, element and compressor index `ci`. They go by the list of
-- records and by the fields of a record, by no route and by no rule of the reader (`Routes`, `TileCells`).
--
-- Nothing but the cell's meaning has the six (`CellExactly`), so a reader that answers otherwise anywhere contradicts them. One that says
-- fill everywhere contradicts `fill` where a record is a tile record with the cell's index; one that never unpacks contradicts `unpacked`;
-- one that ignores the index contradicts `unpacked` and `compressed` where the content's first byte is another, and one that unpacks a
-- Float the same two; one that places 14 at the content contradicts `malformed`. `exact_cells` shows these five on a page.
use Rattle.std.specs.Prelude.{ℕ, ◌+◌, ◌*◌, ◌<◌, ◌≡◌, ◌⊎◌, length, get_or, eqb, Err, Ok, Result}
use Rattle.answer.specs.declared.Refusal.{Refusal}
use mathlib.Core.List.{List, [], ◌∷◌, Memᴰ}
use Rattle.wire.specs.Bytes.{Bytes, byte_at, part, number_at}
use Rattle.answer.specs.declared.Refusal.TheVariants as refusal
use Rattle.answer.specs.declared.Value.{Value}
use Rattle.answer.specs.declared.Location.{Location}
use Rattle.answer.specs.declared.Cell.{Cell}
use Rattle.answer.specs.declared.Cell.TheVariants as cell
use Rattle.answer.specs.Values.{value_of}
use Rattle.answer.specs.Answers.{cell_kind}
use Rattle.header.specs.Fields.{grid_rows, grid_columns, tile_rows, tile_columns, element_count}
use Rattle.header.specs.Element.{float_kind, short_kind, cell_size, element}
use Rattle.record.specs.Record.{type_at}
use Rattle.record.specs.Chain.{records}
use Rattle.record.specs.Types.{tile_type}
use Rattle.geometry.specs.Tiles.{cell_tile, cell_inside}
use Rattle.geometry.specs.Sizes.{element_bytes}
use Rattle.bodies.specs.TileRecord.{tile_index, section_length, element_content_at}
use Rattle.unpack.specs.Unpack.{Cells, cells, malformed, unpacked}
use Rattle.page_check.specs.Stages.{check}
use Rattle.page_check.specs.Accepted.{Sound}
use Rattle.cells.specs.Meaning.{meaning}
use Rattle.cells.specs.Reads.{read_by_directory, read_by_walk, read_by_records}

-- a exactly where b
abbrev pub Exactly : Type 0 → Type 0 → Type 0
Exactly a b = (a → b) × (b → a)

-- the cell is one of the grid
pub record OfGrid (s : List ℕ) (row column e : ℕ) : Type 0 where
  pub row_in : row < grid_rows s
  pub column_in : column < grid_columns s
  pub element_in : e < element_count s

-- of the records after the header the one at x is a tile record with the index of the cell's tile
pub record TileRecordAt (s : List ℕ) (row column x : ℕ) : Type 0 where
  pub among : Memᴰ x (records s)
  pub type : type_at s x ≡ tile_type
  pub index : tile_index s x ≡ cell_tile s row column

-- 'Otherwise the record that is one decides' (document 01, 'Finding a cell'), of a cell of the grid
pub record Decided (s : List ℕ) (row column e x : ℕ) : Type 0 where
  pub asked : OfGrid s row column e
  pub record_at : TileRecordAt s row column x

-- the element's L there is below U, so it is compressed
pub record Packed (s : List ℕ) (row column e x : ℕ) : Type 0 where
  pub decided : Decided s row column e x
  pub below : section_length s x e < element_bytes s e

-- the first byte of its content, the compressor index (G 6), is the index named, and the element is no Float
pub record Named (s : List ℕ) (ci e x : ℕ) : Type 0 where
  pub index : byte_at s (element_content_at s x e) ≡ ci
  pub no_float : (element s e).kind ≡ float_kind → ⊥

-- what that content holds: the bits of each cell by rows, or that it is malformed
abbrev pub content_holds : List ℕ → ℕ → ℕ → Cells
content_holds s e x =
    unpacked (part s (element_content_at s x e) (section_length s x e)) (tile_rows s) (tile_columns s) (eqb (element s e).kind short_kind)

-- where a cell lies: the index of its tile, and its number inside the tile (Req 10)
abbrev pub Lies : List ℕ → ℕ → ℕ → Location → Type 0
Lies s row column w = w ≡ record { tile = cell_tile s row column; inside = cell_inside s row column }

-- fill: no record is one; the value is the element's fill
pub record IsFill (s : List ℕ) (row column e : ℕ) (v : Value) (w : Location) : Type 0 where
  pub asked : OfGrid s row column e
  pub none : (x : ℕ) → TileRecordAt s row column x → ⊥
  pub value : v ≡ value_of (element s e).kind (element s e).fill
  pub lies : Lies s row column w

-- stored: a record is one and L equals U; the place is in its content, and the value is the number there, of 2 bytes or 4
pub record IsStored (s : List ℕ) (row column e : ℕ) (v : Value) (place : ℕ) (w : Location) : Type 0 where
  pub start : ℕ
  pub decided : Decided s row column e start
  pub whole : section_length s start e ≡ element_bytes s e
  pub here : place ≡ element_content_at s start e + cell_inside s row column * cell_size (element s e).kind
  pub value : v ≡ value_of (element s e).kind (number_at (cell_size (element s e).kind) s place)
  pub lies : Lies s row column w

-- unpacked: compressed, named and whole; the place is the start of its content, and the value is the one that this holds for the cell
pub record IsUnpacked (s : List ℕ) (ci row column e : ℕ) (v : Value) (place : ℕ) (w : Location) : Type 0 where
  pub start : ℕ
  pub packed : Packed s row column e start
  pub named : Named s ci e start
  pub bits : List ℕ
  pub holds : content_holds s e start ≡ cells bits
  pub among : cell_inside s row column < length bits
  pub here : place ≡ element_content_at s start e
  pub value : v ≡ value_of (element s e).kind (get_or bits (cell_inside s row column) 0)
  pub lies : Lies s row column w

-- 14 at x: the same, but the content is malformed
pub record IsMalformed (s : List ℕ) (ci row column e x : ℕ) : Type 0 where
  pub packed : Packed s row column e x
  pub named : Named s ci e x
  pub holds : content_holds s e x ≡ malformed

-- 11 at x, what remains: compressed, but the index is another, or the element is a Float
pub record IsCompressed (s : List ℕ) (ci row column e x : ℕ) : Type 0 where
  pub packed : Packed s row column e x
  pub other : (byte_at s (element_content_at s x e) ≡ ci → ⊥) ⊎ ((element s e).kind ≡ float_kind)

-- the six facts of an answer: 10, fill, stored, unpacked, 14, 11
pub record CellIs (s : List ℕ) (ci row column e : ℕ) (c : Result Cell Refusal) : Type 0 where
  pub outside : Exactly (c ≡ Err refusal.OutsideGrid) (OfGrid s row column e → ⊥)
  pub fill : (v : Value) (w : Location) → Exactly (c ≡ Ok (cell.Fill v w)) (IsFill s row column e v w)
  pub stored : (v : Value) (place : ℕ) (w : Location) → Exactly (c ≡ Ok (cell.Stored v place w)) (IsStored s row column e v place w)
  pub unpacked : (v : Value) (place : ℕ) (w : Location) → Exactly (c ≡ Ok (cell.Unpacked v place w)) (IsUnpacked s ci row column e v place w)
  pub malformed : (x : ℕ) → Exactly (c ≡ Err (refusal.Malformed x)) (IsMalformed s ci row column e x)
  pub compressed : (x : ℕ) → Exactly (c ≡ Err (refusal.Compressed x)) (IsCompressed s ci row column e x)

-- on every page that is sound, accepted or open for writing, the meaning has the six facts, and no other answer has
abbrev pub CellExactly : Type 0
CellExactly = (s : List ℕ) → Bytes s → Sound s → (ci row column e : ℕ) (c : Result Cell Refusal) → Exactly (c ≡ meaning s ci row column e) (CellIs s ci row column e c)

-- on an accepted file each route's answer has them, by demand 3
pub record ReadIs (s : List ℕ) (ci row column e : ℕ) : Type 0 where
  pub by_meaning : CellIs s ci row column e (meaning s ci row column e)
  pub by_directory : CellIs s ci row column e (read_by_directory s ci row column e)
  pub by_walk : CellIs s ci row column e (read_by_walk s ci row column e)
  pub by_records : CellIs s ci row column e (read_by_records s ci row column e)

abbrev pub ReadExactly : Type 0
ReadExactly = (s : List ℕ) → Bytes s → check s ≡ Ok tt → (ci row column e : ℕ) → ReadIs s ci row column e

-- so a cell of the grid is 32 stored, 33 fill, 34 unpacked, 11 or 14, and nothing else
abbrev pub FiveKinds : Type 0
FiveKinds =
    (s : List ℕ) (ci row column e : ℕ) → OfGrid s row column e → Memᴰ (cell_kind (meaning s ci row column e)) (32 ∷ 33 ∷ 34 ∷ 11 ∷ 14 ∷ [])
