-- Demand 2, second half: a page laid down is accepted, and reads back. f is the front, t the time modified, ix the tile indexes, c the
-- cell bytes of those tiles one after another.
use Rattle.std.specs.Prelude.{ℕ, ◌+◌, ◌*◌, ◌-◌, ◌≤◌, ◌<◌, ◌≡◌, List, true, false, length, get_or, take, Err, None, Ok, Some}
use Rattle.wire.specs.Tests.{sum_below}
use Rattle.wire.specs.Bytes.{Bytes, byte_at, part, number_at}
use Rattle.answer.specs.declared.Refusal.TheVariants.{OutsideGrid}
use Rattle.answer.specs.declared.Cell.TheVariants as cell
use Rattle.answer.specs.Values.{value_of}
use Rattle.header.specs.Fields.{element_count}
use Rattle.header.specs.Element.{cell_size, element}
use Rattle.record.specs.Record.{content_at}
use Rattle.geometry.specs.Tiles.{cell_tile}
use Rattle.geometry.specs.Sizes.{element_bytes, tile_bytes, stored_size, plain_tile_length}
use Rattle.page_check.specs.Stages.{check}
use Rattle.cells.specs.Asked.{in_grid, in_tiles}
use Rattle.cells.specs.TileCells.{location_of, fill_of, offset_in}
use Rattle.cells.specs.Meaning.{meaning, content_meaning}
use Rattle.cells.specs.Demand3.{bytes_of_cell, OneAnswer}
use Rattle.lay_down.specs.Page.{directory_start, FieldsRead, NotSet, laid_file}
use Rattle.lay_down.specs.Answer.{laid, laid_out}

-- where the bytes given for element e of the k-th listed tile stand among the cell bytes: behind k tiles and, in its own, behind the
-- elements before it
unfoldable pub content_given : List ℕ → ℕ → ℕ → ℕ
content_given f k e = k * tile_bytes f + sum_below e (element_bytes f)

-- where they stand in the file: behind the front and k tile records and, in its own, behind head and index, the sections of the
-- elements before it, and its own length field
unfoldable pub content_laid : List ℕ → ℕ → ℕ → ℕ
content_laid f k e = length f + k * plain_tile_length f + 12 + sum_below e (λ d. stored_size (element_bytes f d)) + 4

-- the same of a cell
unfoldable pub cell_given : List ℕ → ℕ → ℕ → ℕ → ℕ → ℕ
cell_given f k row column e = content_given f k e + offset_in f row column e

unfoldable pub cell_laid : List ℕ → ℕ → ℕ → ℕ → ℕ → ℕ
cell_laid f k row column e = content_laid f k e + offset_in f row column e

-- the k-th listed tile, counted from 0, is the one that holds the cell
pub record ListedAs (f ix : List ℕ) (k row column : ℕ) : Type 0 where
  pub among : k < length ix
  pub tile : get_or ix k 0 ≡ cell_tile f row column

pub record ReadsBack (f : List ℕ) (t : ℕ) (ix c : List ℕ) : Type 0 where
  -- the check accepts the file
  pub accepted : check (laid_file f t ix c) ≡ Ok tt
  -- a grid cell of a listed tile is stored, with the value that the bytes given for it give
  pub stored :
      (ci row column e k : ℕ) → in_grid f row column e ≡ true → ListedAs f ix k row column →
      meaning (laid_file f t ix c) ci row column e
      ≡ Ok (cell.Stored (value_of (element f e).kind (number_at (cell_size (element f e).kind) c (cell_given f k row column e))) (cell_laid f k row column e) (location_of f row column))
  -- and has exactly those bytes at its place
  pub given :
      (row column e k : ℕ) → in_grid f row column e ≡ true → ListedAs f ix k row column →
      cell_given f k row column e + bytes_of_cell f e ≤ length c
  pub bytes :
      (row column e k : ℕ) → in_grid f row column e ≡ true → ListedAs f ix k row column →
      part (laid_file f t ix c) (cell_laid f k row column e) (bytes_of_cell f e) ≡ part c (cell_given f k row column e) (bytes_of_cell f e)
  -- every other grid cell is fill, with the element's fill of the front
  pub fill :
      (ci row column e : ℕ) → in_grid f row column e ≡ true → ((k : ℕ) → ListedAs f ix k row column → ⊥) →
      meaning (laid_file f t ix c) ci row column e ≡ fill_of f (location_of f row column) e
  -- an element's content in a listed tile is the bytes given for it, also past the grid's edge
  pub content :
      (k e : ℕ) → k < length ix → e < element_count f →
      content_meaning (laid_file f t ix c) (get_or ix k 0) e ≡ Ok (Some (record { start = content_laid f k e; length = element_bytes f e }))
  pub content_given_lem : (k e : ℕ) → k < length ix → e < element_count f → content_given f k e + element_bytes f e ≤ length c
  pub content_inside : (k e : ℕ) → k < length ix → e < element_count f → content_laid f k e + element_bytes f e ≤ length (laid_file f t ix c)
  pub content_bytes :
      (k e : ℕ) → k < length ix → e < element_count f →
      part (laid_file f t ix c) (content_laid f k e) (element_bytes f e) ≡ part c (content_given f k e) (element_bytes f e)
  -- every other tile of the grid has none
  pub absent :
      (tile e : ℕ) → in_tiles f tile e ≡ true → ((k : ℕ) → k < length ix → get_or ix k 0 ≡ tile → ⊥) →
      content_meaning (laid_file f t ix c) tile e ≡ Ok None
  -- the grid and its tiles are the front's
  pub outside : (ci row column e : ℕ) → in_grid f row column e ≡ false → meaning (laid_file f t ix c) ci row column e ≡ Err OutsideGrid
  pub content_outside : (tile e : ℕ) → in_tiles f tile e ≡ false → content_meaning (laid_file f t ix c) tile e ≡ Err OutsideGrid
  -- the header says what is set, and is the front that was given in every other byte before its checksum
  pub fields : FieldsRead (laid_file f t ix c) t (content_at (directory_start f ix))
  pub front : (i : ℕ) → i < length f - 4 → NotSet i → byte_at (laid_file f t ix c) i ≡ byte_at f i
  -- and every route answers with the meaning
  pub routes : (ci : ℕ) → OneAnswer (laid_file f t ix c) ci

-- of every lay-down into a buffer `out` that is not refused: the answer n is the file's length, the first n bytes of the buffer
-- are the file, and it reads back
pub record Done (f : List ℕ) (t : ℕ) (ix c out : List ℕ) (n : ℕ) : Type 0 where
  pub long : length (laid_file f t ix c) ≡ n
  pub first : take n (laid_out f t ix c out) ≡ laid_file f t ix c
  pub reads : ReadsBack f t ix c

abbrev pub ReadBack : Type 0
ReadBack = (f : List ℕ) (t : ℕ) (ix c out : List ℕ) (n : ℕ) → Bytes f → Bytes c → laid f t ix c (length out) ≡ Ok n → Done f t ix c out n
