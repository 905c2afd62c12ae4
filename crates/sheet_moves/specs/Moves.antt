-- Req 13: a sheet there and back, and a page out and back. f is a front, d a sheet, s a page; t is a time, k and j are compressor indexes.
use Rattle.std.specs.Prelude.{ℕ, ◌<◌, ◌*◌, ◌+◌, ◌≡◌, List, [], ◌∷◌, length, take, leb, Err, Ok, Result}
use Rattle.answer.specs.declared.Refusal.{Refusal}
use Rattle.wire.specs.Pick.{pick}
use Rattle.wire.specs.Tests.{◌≢?◌, passes}
use Rattle.wire.specs.Bytes.{Bytes}
use Rattle.score_sheets.specs.Sheet.{sheet_rows, sheet_columns, score_at, unread}
use Rattle.answer.specs.declared.Refusal.TheVariants.{Input, Room}
use Rattle.answer.specs.Refusals.{gate, unless_refused}
use Rattle.answer.specs.Answers.{cell_kind, cell_bits, cell_verdict}
use Rattle.record.specs.Chain.{header_end, records_of}
use Rattle.record.specs.Types.{metadata_type}
use Rattle.header.specs.Fields.{grid_rows, grid_columns}
use Rattle.geometry.specs.Tiles.{cell_tile}
use Rattle.page_check.specs.Stages.{check}
use Rattle.cells.specs.Meaning.{meaning}
use Rattle.lay_down.specs.Page.{file_length}
use Rattle.lay_down.specs.Answer.{length_verdict}
use Rattle.lay_down.specs.Sheet.{kept_tiles, sheet_laid, sheet_file}
use Rattle.sheets.specs.Back.{sheet_of, sheet_back}

-- a sheet that is moved into a page: the page is accepted, and each grid cell has the bits of its score
pub record ScoresRead (d s : List ℕ) (k : ℕ) : Type 0 where
  pub accepted : check s ≡ Ok tt
  pub each :
      (row column : ℕ) → row < sheet_rows d → column < sheet_columns d →
      (cell_bits (meaning s k row column 0) ≡ score_at d (row * sheet_columns d + column)) × (cell_verdict (meaning s k row column 0) ≡ Ok tt)

abbrev pub ScoresKept : Type 0
ScoresKept =
    (f : List ℕ) (t : ℕ) (d : List ℕ) (room n k : ℕ) → Bytes f → Bytes d → sheet_laid f t d room ≡ Ok n → ScoresRead d (sheet_file f t d) k

-- "Unrefused, a sheet moved there and back has the same bytes": once it is in, the way back is refused by a short buffer alone
pub record Again (d s : List ℕ) (k room : ℕ) : Type 0 where
  pub answer : sheet_back s k room ≡ pick (leb (length d) room) (Ok (length d)) (Err Room)
  pub bytes : sheet_of s k ≡ d

abbrev pub ThereAndBack : Type 0
ThereAndBack =
    (f : List ℕ) (t : ℕ) (d : List ℕ) (room n k room2 : ℕ) → Bytes f → Bytes d → sheet_laid f t d room ≡ Ok n → Again d (sheet_file f t d) k room2

-- each grid cell of the tile of a cell has the bits of -1
abbrev pub TileUnread : List ℕ → ℕ → ℕ → ℕ → Type 0
TileUnread s k row column =
    (r c : ℕ) → r < grid_rows s → c < grid_columns s → cell_tile s r c ≡ cell_tile s row column → cell_bits (meaning s k r c 0) ≡ unread

-- "a page moved out and back, with its own front": the first bytes of the page, up to its header's end
abbrev pub own_front : List ℕ → List ℕ
own_front s = take (header_end s) s

abbrev pub out_and_in : List ℕ → ℕ → ℕ → List ℕ
out_and_in s k t = sheet_file (own_front s) t (sheet_of s k)

-- "has the same grid cell values, but a stored tile whose grid cells are all -1 becomes absent and metadata is lost": q is the page again.
-- A cell is fill in it exactly if each grid cell of its tile has the bits of -1, and stored else
pub record SameValues (s q : List ℕ) (k j : ℕ) : Type 0 where
  pub accepted : check q ≡ Ok tt
  pub rows : grid_rows q ≡ grid_rows s
  pub columns : grid_columns q ≡ grid_columns s
  pub bits : (row column : ℕ) → row < grid_rows s → column < grid_columns s → cell_bits (meaning q j row column 0) ≡ cell_bits (meaning s k row column 0)
  pub fill : (row column : ℕ) → row < grid_rows s → column < grid_columns s → TileUnread s k row column → cell_kind (meaning q j row column 0) ≡ 33
  pub stored : (row column : ℕ) → row < grid_rows s → column < grid_columns s → (TileUnread s k row column → ⊥) → cell_kind (meaning q j row column 0) ≡ 32
  pub no_metadata : records_of q metadata_type ≡ []

abbrev pub OutAndBack : Type 0
OutAndBack =
    (s : List ℕ) (k room n t room2 m j : ℕ) → Bytes s → sheet_back s k room ≡ Ok n → sheet_laid (own_front s) t (sheet_of s k) room2 ≡ Ok m →
    SameValues s (out_and_in s k t) k j

-- by what alone the way back in can be refused: a time of zero, 4 where the plain tiles make the file too long, 13
abbrev pub back_in : List ℕ → ℕ → ℕ → ℕ → Result ℕ Refusal
back_in s k t room =
    let ix = kept_tiles (own_front s) (sheet_of s k) in
    unless_refused Err (gate (passes ((t ≢? 0) ∷ [])) Input (length_verdict (own_front s) ix room)) (Ok (file_length (own_front s) ix))

abbrev pub InAgain : Type 0
InAgain =
    (s : List ℕ) (k room n t room2 : ℕ) → Bytes s → sheet_back s k room ≡ Ok n → sheet_laid (own_front s) t (sheet_of s k) room2 ≡ back_in s k t room2
