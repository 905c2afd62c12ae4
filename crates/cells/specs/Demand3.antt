-- Demand 3, whole: on every accepted file both routes, and the walk without stage 9, give the one answer that the cell's meaning
-- fixes, whatever compressor index the caller names; two different stored cells never share a byte.
use Rattle.std.specs.Prelude.{ℕ, ◌+◌, ◌*◌, ◌/◌, ◌%◌, ◌≤◌, ◌<◌, ◌≡◌, ◌⊎◌, length, Ok, Some}
use mathlib.Core.List.{List, Memᴰ}
use Rattle.answer.specs.declared.Value.{Value}
use Rattle.answer.specs.declared.Location.{Location}
use Rattle.answer.specs.declared.Cell.TheVariants.{Stored}
use Rattle.answer.specs.Answers.{cell_kind, cell_place, cell_verdict, answer_tile, answer_inside}
use Rattle.header.specs.Fields.{tile_rows, tile_columns}
use Rattle.header.specs.Element.{cell_size, element}
use Rattle.record.specs.Record.{length_at}
use Rattle.record.specs.Chain.{header_end, records_of}
use Rattle.record.specs.Types.{tile_type}
use Rattle.geometry.specs.Tiles.{tiles_across, tile_count, cell_tile, cell_inside}
use Rattle.bodies.specs.TileRecord.{tile_index}
use Rattle.bodies.specs.TileDirectory.{tile_directory_at}
use Rattle.page_check.specs.Stages.{check}
use Rattle.page_check.specs.Accepted.{Sound}
use Rattle.tile_routes.specs.Ways.{referred_to, walked_to}
use Rattle.cells.specs.Routes.{cell_by}
use Rattle.cells.specs.Meaning.{meaning, content_meaning}
use Rattle.cells.specs.Reads.{read_by_directory, read_by_walk, read_by_records}

-- the bytes of a stored cell of element e
abbrev pub bytes_of_cell : List ℕ → ℕ → ℕ
bytes_of_cell s e = cell_size (element s e).kind

-- a place in a tile record that has the index
pub record InRecord (s : List ℕ) (tile place : ℕ) : Type 0 where
  pub start : ℕ
  pub among : Memᴰ start (records_of s tile_type)
  pub index : tile_index s start ≡ tile
  pub behind : start ≤ place
  pub inside : place < start + length_at s start

pub record OneAnswer (s : List ℕ) (ci : ℕ) : Type 0 where
  pub by_directory : (row column e : ℕ) → read_by_directory s ci row column e ≡ meaning s ci row column e
  pub by_walk : (row column e : ℕ) → read_by_walk s ci row column e ≡ meaning s ci row column e
  pub by_records : (row column e : ℕ) → read_by_records s ci row column e ≡ meaning s ci row column e
  -- Req 10: an answer that is no refusal names the cell's tile and its number inside the tile; both are in range, and give the row
  -- and the column back
  pub located :
      (row column e : ℕ) → cell_verdict (meaning s ci row column e) ≡ Ok tt →
      (answer_tile (meaning s ci row column e) ≡ cell_tile s row column) × (answer_inside (meaning s ci row column e) ≡ cell_inside s row column)
  pub numbered :
      (row column e : ℕ) → cell_verdict (meaning s ci row column e) ≡ Ok tt →
      (answer_tile (meaning s ci row column e) < tile_count s) × (answer_inside (meaning s ci row column e) < tile_rows s * tile_columns s)
  pub found_again :
      (row column e : ℕ) → cell_verdict (meaning s ci row column e) ≡ Ok tt →
      (row ≡ answer_tile (meaning s ci row column e) / tiles_across s * tile_rows s + answer_inside (meaning s ci row column e) / tile_columns s)
      × (column ≡ answer_tile (meaning s ci row column e) % tiles_across s * tile_columns s + answer_inside (meaning s ci row column e) % tile_columns s)
  -- the place of a stored or an unpacked cell lies in the record of that tile
  pub in_record :
      (row column e : ℕ) → (cell_kind (meaning s ci row column e) ≡ 32) ⊎ (cell_kind (meaning s ci row column e) ≡ 34) →
      InRecord s (answer_tile (meaning s ci row column e)) (cell_place (meaning s ci row column e))
  -- a stored cell's bytes lie in the file
  pub inside : (row column e place : ℕ) (v : Value) (w : Location) → meaning s ci row column e ≡ Ok (Stored v place w) → place + bytes_of_cell s e ≤ length s
  -- two stored cells are one cell, or one ends before the other starts
  pub apart :
      (row column e place : ℕ) (v : Value) (w : Location) (row2 column2 e2 place2 : ℕ) (v2 : Value) (w2 : Location) →
      meaning s ci row column e ≡ Ok (Stored v place w) → meaning s ci row2 column2 e2 ≡ Ok (Stored v2 place2 w2) →
      ((row ≡ row2) × ((column ≡ column2) × (e ≡ e2)))
      ⊎ ((place + bytes_of_cell s e ≤ place2) ⊎ (place2 + bytes_of_cell s e2 ≤ place))

abbrev pub Demand3 : Type 0
Demand3 = (s : List ℕ) → check s ≡ Ok tt → (ci : ℕ) → OneAnswer s ci

-- Req 03: what of it asks for no check. On every page that is sound, open for writing or closed, both ways to a tile's record give the
-- cell's meaning
pub record OneMeaning (s : List ℕ) (ci : ℕ) : Type 0 where
  pub through_directory_lem : (row column e : ℕ) → cell_by s ci (referred_to s (tile_directory_at s)) row column e ≡ meaning s ci row column e
  pub along_records : (row column e : ℕ) → cell_by s ci (walked_to s (header_end s)) row column e ≡ meaning s ci row column e

abbrev pub SoundCells : Type 0
SoundCells = (s : List ℕ) → Sound s → (ci : ℕ) → OneMeaning s ci

-- beside it, of an element's content: where it is present, its bytes lie in the file
abbrev pub ContentInside : Type 0
ContentInside = (s : List ℕ) → check s ≡ Ok tt → (tile e at n : ℕ) → content_meaning s tile e ≡ Ok (Some (record { start = at; length = n })) → at + n ≤ length s
