-- How the call goes: what each of its functions asks, and what it has written. The rectangle is the whole grid.
use Rattle.std.specs.Prelude.{ℕ, ◌+◌, ◌-◌, ◌*◌, ◌/◌, ◌%◌, ◌≤◌, ◌<◌, ◌≡◌, List, Bool, true, false, eqb, length, get_or, Err, Ok, Result, ⊤}
use Rattle.answer.specs.declared.Refusal.{Refusal}
use Rattle.wire.specs.Pick.{pick}
use Rattle.wire.specs.Bytes.{number_at}
use Rattle.wire.specs.Big.{big_of}
use Rattle.wire.specs.Tests.{all_below}
use Rattle.score_sheets.specs.Sheet.{score_right}
use Rattle.answer.specs.declared.Held.{Held}
use Rattle.answer.specs.declared.Held.TheVariants as held
use Rattle.answer.specs.Answers.{held_kind, cell_bits}
use Rattle.store.specs.declared.many.Rectangle.{Rectangle}
use Rattle.store.specs.Face.{grid_rows, grid_columns, tile_columns, element, most_grid_side, held_cell, numbered_cell}
use Rattle.sheets.specs.declared.read.Reading.{Reading}
use Rattle.sheets.specs.declared.read.Run.{Run}
use Rattle.sheets.specs.Back.{fault, score_cell}

abbrev pub whole_grid : List ℕ → Rectangle
whole_grid s = record { e = 0; row = 0; column = 0; rows = grid_rows s; columns = grid_columns s }

-- a rectangle of the first element that starts where the grid does
abbrev pub AtOrigin : Rectangle → Type 0
AtOrigin a = (a.e ≡ 0) × ((a.row ≡ 0) × (a.column ≡ 0))

-- the type code and the fill of the first element, and the columns of a tile
abbrev pub Known : List ℕ → ℕ → ℕ → ℕ → Type 0
Known s kind fill across = (across ≡ tile_columns s) × ((kind ≡ (element s 0).kind) × (fill ≡ (element s 0).fill))

abbrev pub KnownBy : List ℕ → Reading → Type 0
KnownBy s x = Known s x.kind x.fill x.across

-- no cell of the tile is stored
abbrev pub is_absent : Result Held Refusal → Bool
is_absent (Ok (held.Stored at)) = false
is_absent (Ok (held.Unpacked at)) = false
is_absent (Ok held.Absent) = true
is_absent (Ok held.Alone) = false
is_absent (Err r) = false

-- the faults of the grid's cells
unfoldable pub grid_fault : List ℕ → ℕ → ℕ → ℕ → Result ⊤ Refusal
grid_fault s k r c = fault (score_cell s k r c)

-- each cell of a row is read from what is held: by itself, or by its number inside its tile, which rises from `start` on
pub record Reads (s : List ℕ) (k : ℕ) (x : Result Held Refusal) (m : List ℕ) (kind fill tile start r left right : ℕ) : Type 0 where
  pub small : start + (right - left) ≤ most_grid_side * most_grid_side
  pub each :
      (c : ℕ) → left ≤ c → c < right →
      pick (eqb (held_kind x) 0) (held_cell s k x m r c 0) (numbered_cell s kind fill m tile (start + (c - left)) x) ≡ score_cell s k r c

abbrev pub ReadsBy : List ℕ → Reading → Result Held Refusal → List ℕ → Run → Type 0
ReadsBy s x h m run = Reads s x.compressor h m x.kind x.fill run.tile run.start run.row run.left run.right

-- n cells of a tile from the one with the number `start` inside it on are stored Shorts, in the two bytes each that stand from `from` on
pub record StoredRun (s : List ℕ) (x : Result Held Refusal) (kind start n from : ℕ) : Type 0 where
  pub content : ℕ
  pub stored : x ≡ Ok (held.Stored content)
  pub short : kind ≡ 3
  pub there : content + 1 ≤ length s
  pub begins : from ≡ content + 2 * start
  pub whole : from + 2 * n ≤ length s

-- n Shorts that stand one behind the other are scores
unfoldable pub run_right : List ℕ → ℕ → ℕ → Bool
run_right s from n = all_below n (λ i. score_right (number_at 2 s (from + 2 * i) % 65536))

-- cells that are so stored, each a score
pub record CleanRun (s : List ℕ) (x : Result Held Refusal) (kind start n : ℕ) : Type 0 where
  pub from : ℕ
  pub run : StoredRun s x kind start n from
  pub right : run_right s from n ≡ true

-- the cells of a row of the grid, so stored
pub record StoredRow (s : List ℕ) (k from r left right : ℕ) : Type 0 where
  pub whole : from + 2 * (right - left) ≤ length s
  pub each : (c : ℕ) → left ≤ c → c < right → number_at 2 s (from + 2 * (c - left)) % 65536 ≡ cell_bits (score_cell s k r c)

-- rows and columns as a sheet has them
pub record Sides (rows columns : ℕ) : Type 0 where
  pub rows_few : rows ≤ 65535
  pub columns_few : columns ≤ 65535

-- and room for two bytes of each score
pub record HasRoom (a : Rectangle) (l : List ℕ) : Type 0 where
  pub sides : Sides a.rows a.columns
  pub room : a.rows * (2 * a.columns) ≤ length l

-- the sheet's bytes behind its head, as a table: two for each score, the higher one first
unfoldable pub score_byte : List ℕ → ℕ → ℕ → ℕ → ℕ
score_byte s k r j = get_or (big_of 2 (cell_bits (score_cell s k r (j / 2)))) (j % 2) 0
