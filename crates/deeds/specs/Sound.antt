-- What an answer tells: where cells are graded, by any rule (Req 08: "State what is common to both once"); what that says of a page; and the
-- refusals in their order.
use Rattle.std.specs.Prelude.{ℕ, ◌+◌, ◌*◌, ◌≤◌, ◌<◌, ◌≡◌, List, true, ◌⊎◌, ℤ, Err, Ok, Result, Some, None, Option}
use Rattle.std.specs.Int.Signed.{le_z}
use Rattle.wire.specs.Pick.{pick}
use Rattle.answer.specs.declared.Refusal.{Refusal}
use Rattle.answer.specs.declared.Refusal.TheVariants.{OutsideGrid, Input}
use Rattle.answer.specs.declared.Cell.{Cell}
use Rattle.answer.specs.Answers.{cell_kind, cell_bits, cell_verdict}
use Rattle.store.specs.Face.{grid_rows, grid_columns, element_count, element, short_kind, check, meaning}
use Rattle.score_rule.specs.declared.Said.TheVariants.{First, Second, Wrong}
use Rattle.score_rule.specs.Rules.{page_says}
use Rattle.blocks.specs.Folds.{fold_inside}
use Rattle.deeds.specs.declared.Rule.{Rule}
use Rattle.deeds.specs.declared.Grade.{Grade}
use Rattle.deeds.specs.declared.Grade.TheVariants.{Certain, Unread}
use Rattle.deeds.specs.Deeds.{counts_as_fill, is_scored, score_of, score_within, from_to, first_rule, second_rule, deed_by, cells_of, deed, has_lowest, Graded}

-- how many cells have a score
unfoldable pub scored_in : ℕ → ℕ → (ℕ → ℕ → Result Cell Refusal) → ℕ
scored_in m n f = fold_inside ◌+◌ 0 0 m 0 n (λ r c. pick (is_scored (f r c)) 1 0)

-- m rows and n columns of cells, and their grade, number of fills and lowest score
pub record Sound (rule : Rule) (m n : ℕ) (f : ℕ → ℕ → Result Cell Refusal) (grade : Grade) (fills : ℕ) (lowest : Option ℤ) : Type 0 where
  -- no cell is refused
  pub none_refused : (r c : ℕ) → r < m → c < n → cell_verdict (f r c) ≡ Ok tt
  -- each counts as a fill or has a score, and all are counted
  pub counted : fills + scored_in m n f ≡ m * n
  -- unread exactly if some cell counts as a fill
  pub fill_unread : (r c : ℕ) → r < m → c < n → counts_as_fill (f r c) ≡ true → grade ≡ Unread
  pub unread_fill : grade ≡ Unread → (r : ℕ) × (c : ℕ) × ((r < m) × (c < n)) × (counts_as_fill (f r c) ≡ true)
  -- which is where any is counted; so certain and doubtful have none
  pub any_fill : 1 ≤ fills → grade ≡ Unread
  pub no_fill : (grade ≡ Unread → ⊥) → fills ≡ 0
  -- and have a lowest score
  pub has_lowest_lem : (grade ≡ Unread → ⊥) → has_lowest lowest ≡ 1
  -- which no cell's score is below, and which is one cell's
  pub least : (r c : ℕ) → r < m → c < n → (a z : ℤ) → lowest ≡ Some a → score_of (f r c) ≡ Some z → le_z a z ≡ true
  pub found : has_lowest lowest ≡ 1 → (r : ℕ) × (c : ℕ) × ((r < m) × (c < n)) × (score_of (f r c) ≡ lowest)
  -- there is none exactly if every cell counts as a fill
  pub no_score : lowest ≡ None → fills ≡ m * n
  pub all_fill : fills ≡ m * n → lowest ≡ None
  -- certain exactly if each cell has a score, and its score is from the mark to the scale
  pub certain : grade ≡ Certain → (r c : ℕ) → r < m → c < n → (is_scored (f r c) ≡ true) × (score_within rule (score_of (f r c)) ≡ true)
  pub each_certain :
      ((r c : ℕ) → r < m → c < n → (is_scored (f r c) ≡ true) × (score_within rule (score_of (f r c)) ≡ true)) → grade ≡ Certain

-- by any rule, of which the answer has a copy
abbrev pub GradedSound : Type 0
GradedSound =
    (rule by : Rule) (m n : ℕ) (f : ℕ → ℕ → Result Cell Refusal) (grade : Grade) (fills : ℕ) (lowest : Option ℤ) → 1 ≤ m → 1 ≤ n →
    deed_by rule m n f ≡ Graded by grade fills lowest → (by ≡ rule) × Sound rule m n f grade fills lowest

-- of a page, by the rule that the answer carries
abbrev pub DeedSound : Type 0
DeedSound =
    (s : List ℕ) (ci e row column rows columns : ℕ) (rule : Rule) (grade : Grade) (fills : ℕ) (lowest : Option ℤ) →
    deed s ci e row column rows columns ≡ Graded rule grade fills lowest → Sound rule rows columns (cells_of s ci e row column) grade fills lowest

-- which is the one that the page says
abbrev pub RuleOfPage : Type 0
RuleOfPage =
    (s : List ℕ) (ci e row column rows columns : ℕ) (rule : Rule) (grade : Grade) (fills : ℕ) (lowest : Option ℤ) →
    deed s ci e row column rows columns ≡ Graded rule grade fills lowest →
    ((page_says s ≡ First) × (rule ≡ first_rule)) ⊎ ((page_says s ≡ Second) × (rule ≡ second_rule))

-- a cell with a score from a mark to a scale: stored or unpacked, never a fill
pub record CertainCell (mark scale : ℕ) (x : Result Cell Refusal) : Type 0 where
  pub stored : (cell_kind x ≡ 32) ⊎ (cell_kind x ≡ 34)
  pub from_mark : mark ≤ cell_bits x
  pub to_scale : cell_bits x ≤ scale

-- "certain exactly if every score is from 900 to 1000", or "from 9,500 to 10,000", in plain numbers
pub record CertainBoth (mark scale : ℕ) (s : List ℕ) (ci e row column rows columns : ℕ) (grade : Grade) : Type 0 where
  pub each : grade ≡ Certain → (r c : ℕ) → r < rows → c < columns → CertainCell mark scale (meaning s ci (row + r) (column + c) e)
  pub all : ((r c : ℕ) → r < rows → c < columns → CertainCell mark scale (meaning s ci (row + r) (column + c) e)) → grade ≡ Certain

abbrev pub CertainExactly : Type 0
CertainExactly =
    (s : List ℕ) (ci e row column rows columns mark scale : ℕ) (grade : Grade) (fills : ℕ) (lowest : Option ℤ) →
    deed s ci e row column rows columns ≡ Graded (from_to mark scale) grade fills lowest → CertainBoth mark scale s ci e row column rows columns grade

-- the refusals in their order, in plain words: the check's; 10; 12, for the rectangle and the element, or for the rule; that of the first
-- refused cell by rows
pub record InOrder (s : List ℕ) (ci e row column rows columns : ℕ) : Type 0 where
  pub checked : (x : Refusal) → check s ≡ Err x → deed s ci e row column rows columns ≡ Err x
  pub outside :
      check s ≡ Ok tt → (e < element_count s → row + rows ≤ grid_rows s → column + columns ≤ grid_columns s → ⊥) →
      deed s ci e row column rows columns ≡ Err OutsideGrid
  pub input :
      check s ≡ Ok tt → e < element_count s → row + rows ≤ grid_rows s → column + columns ≤ grid_columns s →
      (1 ≤ rows → 1 ≤ columns → (element s e).kind ≡ short_kind → ⊥) → deed s ci e row column rows columns ≡ Err Input
  pub rule_wrong :
      check s ≡ Ok tt → e < element_count s → row + rows ≤ grid_rows s → column + columns ≤ grid_columns s → page_says s ≡ Wrong →
      deed s ci e row column rows columns ≡ Err Input
  pub cell :
      check s ≡ Ok tt → e < element_count s → row + rows ≤ grid_rows s → column + columns ≤ grid_columns s → (element s e).kind ≡ short_kind →
      (page_says s ≡ Wrong → ⊥) → (r c : ℕ) → r < rows → c < columns → (x : Refusal) → cell_verdict (meaning s ci (row + r) (column + c) e) ≡ Err x →
      ((i k : ℕ) → i < r → k < columns → cell_verdict (meaning s ci (row + i) (column + k) e) ≡ Ok tt) →
      ((k : ℕ) → k < c → cell_verdict (meaning s ci (row + r) (column + k) e) ≡ Ok tt) →
      deed s ci e row column rows columns ≡ Err x

abbrev pub RefusedInOrder : Type 0
RefusedInOrder = (s : List ℕ) (ci e row column rows columns : ℕ) → InOrder s ci e row column rows columns
