-- Req 07 and Req 13: what a cell counts as, in plain numbers; and what is not refused is graded. With `RefusedInOrder` and `DeedSound` of
-- `deeds` this says all of a deed.
use Rattle.std.specs.Prelude.{ℕ, ◌+◌, ◌-◌, ◌≤◌, ◌<◌, ◌≡◌, List, true, false, pos, negsuc, Ok, Result, Some, None, Option, ℤ}
use Rattle.answer.specs.declared.Refusal.{Refusal}
use Rattle.answer.specs.declared.Cell.{Cell}
use Rattle.answer.specs.Answers.{cell_kind, cell_bits, cell_verdict}
use Rattle.store.specs.Face.{grid_rows, grid_columns, element_count, check, meaning, element, short_kind}
use Rattle.score_rule.specs.declared.Said.TheVariants.{Wrong}
use Rattle.score_rule.specs.Rules.{page_says}
use Rattle.deeds.specs.declared.Rule.{Rule}
use Rattle.deeds.specs.declared.Grade.{Grade}
use Rattle.deeds.specs.declared.Deed.{Deed}
use Rattle.deeds.specs.Deeds.{counts_as_fill, is_scored, score_of, deed, Graded}
use Rattle.exact_products.specs.Comparisons.{IsHeld}

pub record IsGraded (x : Result Deed Refusal) : Type 0 where
  pub rule : Rule
  pub grade : Grade
  pub fills : ℕ
  pub lowest : Option ℤ
  pub is : x ≡ Graded rule grade fills lowest

-- a rectangle of cells of a Short element, in the grid of an accepted page that says a rule, none of them 11 or 14
abbrev pub DeedGiven : Type 0
DeedGiven =
    (s : List ℕ) (ci e row column rows columns : ℕ) → check s ≡ Ok tt → e < element_count s → row + rows ≤ grid_rows s → column + columns ≤ grid_columns s →
    1 ≤ rows → 1 ≤ columns → (element s e).kind ≡ short_kind → (page_says s ≡ Wrong → ⊥) →
    ((r c : ℕ) → r < rows → c < columns → cell_verdict (meaning s ci (row + r) (column + c) e) ≡ Ok tt) → IsGraded (deed s ci e row column rows columns)

-- a cell of 16 bits: whether it counts as a fill, whether it has a score, and which
pub record CountsAs (x : Result Cell Refusal) : Type 0 where
  -- a fill, whatever its bits are
  pub fill : cell_kind x ≡ 33 → (counts_as_fill x ≡ true) × ((is_scored x ≡ false) × (score_of x ≡ None))
  -- "counts a stored -1 as a fill cell, never a score"
  pub minus : IsHeld x → cell_bits x ≡ 65535 → (counts_as_fill x ≡ true) × ((is_scored x ≡ false) × (score_of x ≡ None))
  -- any other has its signed number
  pub positive : IsHeld x → cell_bits x < 32768 → (counts_as_fill x ≡ false) × ((is_scored x ≡ true) × (score_of x ≡ Some (pos (cell_bits x))))
  pub negative :
      IsHeld x → 32768 ≤ cell_bits x → cell_bits x < 65535 →
      (counts_as_fill x ≡ false) × ((is_scored x ≡ true) × (score_of x ≡ Some (negsuc (65535 - cell_bits x))))

abbrev pub ScoresExactly : Type 0
ScoresExactly = (x : Result Cell Refusal) → CountsAs x
