-- Req 13, the way out: a page s with its compressor index k, and the score sheet that it becomes.
use Rattle.std.specs.Prelude.{ℕ, ◌+◌, ◌*◌, List, [], ◌∷◌, Bool, true, false, Err, Ok, Result, ⊤}
use Rattle.answer.specs.declared.Refusal.{Refusal}
use Rattle.wire.specs.Tests.{◌≤?◌, is, passes}
use Rattle.blocks.specs.Folds.{fold_inside}
use Rattle.score_sheets.specs.Sheet.{score_right, sheet_bytes}
use Rattle.answer.specs.declared.Refusal.TheVariants.{Input, Room}
use Rattle.answer.specs.declared.Cell.{Cell}
use Rattle.answer.specs.Refusals.{gate, unless_refused}
use Rattle.answer.specs.Answers.{cell_bits, cell_verdict}
use Rattle.store.specs.Face.{grid_rows, grid_columns, check, meaning}
use Rattle.score_rule.specs.declared.Said.{Said}
use Rattle.score_rule.specs.declared.Said.TheVariants.{First, Second, Wrong}
use Rattle.score_rule.specs.Rules.{page_says}
use Rattle.lay_down.specs.Sheet.{score_element}

-- "Req 08's rule not the first"
unfoldable pub is_first : Said → Bool
is_first First = true
is_first Second = false
is_first Wrong = false

-- "12 if it has not one element only, a Short, the fill is not -1, Req 08's rule not the first, a side exceeds 65,535 or the length
-- 4,294,967,295"
unfoldable pub sheetable : List ℕ → Bool
sheetable s =
    passes
    (is (score_element s) ∷ is (is_first (page_says s)) ∷ (grid_rows s ≤? 65535) ∷ (grid_columns s ≤? 65535)
    ∷ (5 + 2 * (grid_rows s * grid_columns s) ≤? 4294967295) ∷ [])

-- "the first grid cell by rows that is 11, 14 or, outside -1 to 1000, 12": of one cell, and of cells by rows
unfoldable pub fault : Result Cell Refusal → Result ⊤ Refusal
fault x = unless_refused Err (cell_verdict x) (gate (score_right (cell_bits x)) Input (Ok tt))

unfoldable pub fault_in : ℕ → ℕ → ℕ → ℕ → (ℕ → ℕ → Result Cell Refusal) → Result ⊤ Refusal
fault_in top bottom left right f = fold_inside (unless_refused Err) (Ok tt) top bottom left right (λ r c. fault (f r c))

-- the grid's cells, by their meaning
unfoldable pub score_cell : List ℕ → ℕ → ℕ → ℕ → Result Cell Refusal
score_cell s k r c = meaning s k r c 0

-- the sheet, and its length
unfoldable pub sheet_of : List ℕ → ℕ → List ℕ
sheet_of s k = sheet_bytes (grid_rows s) (grid_columns s) (λ r c. cell_bits (score_cell s k r c))

unfoldable pub sheet_length : List ℕ → ℕ
sheet_length s = 9 + 2 * (grid_rows s * grid_columns s)

-- what is judged behind the check
unfoldable pub judged_out : List ℕ → ℕ → Result ⊤ Refusal
judged_out s k = gate (sheetable s) Input (fault_in 0 (grid_rows s) 0 (grid_columns s) (score_cell s k))

-- "the check's refusals, then 12 if ..; then the first grid cell by rows ..; then 13 exactly if the sheet's buffer is too short"; the answer
-- is the sheet's length
unfoldable pub sheet_back : List ℕ → ℕ → ℕ → Result ℕ Refusal
sheet_back s k room =
    unless_refused Err (check s)
    (unless_refused Err (judged_out s k)
    (unless_refused Err (gate (passes ((sheet_length s ≤? room) ∷ [])) Room (Ok tt)) (Ok (sheet_length s))))
