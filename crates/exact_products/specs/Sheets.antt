-- Req 13: a score sheet moved in and a page moved out: the refusals in their order, and that what is not refused is done.
use Rattle.std.specs.Prelude.{ℕ, ◌+◌, ◌*◌, ◌≤◌, ◌<◌, ◌≡◌, ◌⊎◌, List, true, false, Err, Ok}
use Rattle.wire.specs.Bytes.{Bytes}
use Rattle.answer.specs.declared.Refusal.{Refusal}
use Rattle.answer.specs.declared.Refusal.TheVariants.{Input, Room}
use Rattle.answer.specs.Answers.{cell_kind, cell_bits, cell_verdict}
use Rattle.geometry.specs.Tiles.{cell_tile}
use Rattle.check_header.specs.Stages.{check_front}
use Rattle.store.specs.Face.{grid_rows, grid_columns, element_count, check, meaning, element, short_kind}
use Rattle.score_rule.specs.declared.Said.TheVariants.{First}
use Rattle.score_rule.specs.Rules.{page_says}
use Rattle.score_sheets.specs.Sheet.{sheet_rows, sheet_columns, score_at, sheet_right}
use Rattle.lay_down.specs.Answer.{laid}
use Rattle.lay_down.specs.Sheet.{kept_tiles, sheet_cells, sheet_laid, sheet_file}
use Rattle.sheets.specs.Back.{sheet_back}

-- "one element only, a Short", "fill -1"
pub record ScoresOnly (s : List ℕ) : Type 0 where
  pub alone : element_count s ≡ 1
  pub short : (element s 0).kind ≡ short_kind
  pub fill : (element s 0).fill ≡ 65535

-- "a front that has its grid", and no other element
pub record FrontOf (f d : List ℕ) : Type 0 where
  pub rows : grid_rows f ≡ sheet_rows d
  pub columns : grid_columns f ≡ sheet_columns d
  pub scores : ScoresOnly f

-- "A bad sheet or front is 12 once the front has passed its own stages. Then the lay-down's refusals in its order": then the answer is
-- that of a lay-down of the sheet's tiles
pub record InExactly (f : List ℕ) (t : ℕ) (d : List ℕ) (room : ℕ) : Type 0 where
  pub front : (r : Refusal) → check_front f ≡ Err r → sheet_laid f t d room ≡ Err r
  pub bad_sheet : check_front f ≡ Ok tt → sheet_right d ≡ false → sheet_laid f t d room ≡ Err Input
  pub bad_front : check_front f ≡ Ok tt → sheet_right d ≡ true → (FrontOf f d → ⊥) → sheet_laid f t d room ≡ Err Input
  pub laid_down :
      check_front f ≡ Ok tt → sheet_right d ≡ true → FrontOf f d → sheet_laid f t d room ≡ laid f t (kept_tiles f d) (sheet_cells f d) room

abbrev pub SheetInExactly : Type 0
SheetInExactly = (f : List ℕ) (t : ℕ) (d : List ℕ) (room : ℕ) → InExactly f t d room

-- each grid cell of the tile of a cell is -1 in the sheet
abbrev pub AllUnread : List ℕ → List ℕ → ℕ → ℕ → Type 0
AllUnread f d row column =
    (i j : ℕ) → i < sheet_rows d → j < sheet_columns d → cell_tile f i j ≡ cell_tile f row column → score_at d (i * sheet_columns d + j) ≡ 65535

-- "tiles all -1 stay absent", and no other: in the page that it becomes, a cell is fill there, and stored else
abbrev pub SheetKinds : Type 0
SheetKinds =
    (f : List ℕ) (t : ℕ) (d : List ℕ) (room n k : ℕ) → Bytes f → Bytes d → sheet_laid f t d room ≡ Ok n → (row column : ℕ) → row < sheet_rows d →
    column < sheet_columns d →
    (AllUnread f d row column → cell_kind (meaning (sheet_file f t d) k row column 0) ≡ 33)
    × ((AllUnread f d row column → ⊥) → cell_kind (meaning (sheet_file f t d) k row column 0) ≡ 32)

-- "it has .. one element only, a Short, the fill is .. -1, Req 08's rule .. the first", no "side exceeds 65,535 or the length
-- 4,294,967,295"
pub record GoesOut (s : List ℕ) : Type 0 where
  pub scores : ScoresOnly s
  pub rule : page_says s ≡ First
  pub rows : grid_rows s ≤ 65535
  pub columns : grid_columns s ≤ 65535
  pub long : 5 + 2 * (grid_rows s * grid_columns s) ≤ 4294967295

-- a grid cell that can go out: readable, and from -1 to 1000
abbrev pub CellFine : List ℕ → ℕ → ℕ → ℕ → Type 0
CellFine s k r c =
    (cell_verdict (meaning s k r c 0) ≡ Ok tt) × ((cell_bits (meaning s k r c 0) ≤ 1000) ⊎ (cell_bits (meaning s k r c 0) ≡ 65535))

-- every cell before one, by rows, can
abbrev pub FineBefore : List ℕ → ℕ → ℕ → ℕ → Type 0
FineBefore s k r c = ((i j : ℕ) → i < r → j < grid_columns s → CellFine s k i j) × ((j : ℕ) → j < c → CellFine s k r j)

-- "the check's refusals, then 12 ..; then the first grid cell by rows that is 11, 14 or, outside -1 to 1000, 12; then 13 exactly if the
-- sheet's buffer is too short"
pub record OutExactly (s : List ℕ) (k room : ℕ) : Type 0 where
  pub checked : (r : Refusal) → check s ≡ Err r → sheet_back s k room ≡ Err r
  pub page : check s ≡ Ok tt → (GoesOut s → ⊥) → sheet_back s k room ≡ Err Input
  pub unread :
      check s ≡ Ok tt → GoesOut s → (r c : ℕ) → r < grid_rows s → c < grid_columns s → FineBefore s k r c → (x : Refusal) →
      cell_verdict (meaning s k r c 0) ≡ Err x → sheet_back s k room ≡ Err x
  pub no_score :
      check s ≡ Ok tt → GoesOut s → (r c : ℕ) → r < grid_rows s → c < grid_columns s → FineBefore s k r c →
      cell_verdict (meaning s k r c 0) ≡ Ok tt → 1000 < cell_bits (meaning s k r c 0) → (cell_bits (meaning s k r c 0) ≡ 65535 → ⊥) →
      sheet_back s k room ≡ Err Input
  pub short :
      check s ≡ Ok tt → GoesOut s → ((r c : ℕ) → r < grid_rows s → c < grid_columns s → CellFine s k r c) →
      room < 9 + 2 * (grid_rows s * grid_columns s) → sheet_back s k room ≡ Err Room
  pub out :
      check s ≡ Ok tt → GoesOut s → ((r c : ℕ) → r < grid_rows s → c < grid_columns s → CellFine s k r c) →
      9 + 2 * (grid_rows s * grid_columns s) ≤ room → sheet_back s k room ≡ Ok (9 + 2 * (grid_rows s * grid_columns s))

abbrev pub SheetOutExactly : Type 0
SheetOutExactly = (s : List ℕ) (k room : ℕ) → OutExactly s k room
