-- Req 09 and Req 10: when two cells differ, and what an entry of the list says.
use Rattle.std.specs.Prelude.{ℕ, ◌≡◌, ◌⊎◌, List, [], ◌∷◌, false, Ok, Result}
use Rattle.answer.specs.declared.Refusal.{Refusal}
use Rattle.answer.specs.declared.Cell.{Cell}
use Rattle.answer.specs.Answers.{cell_kind, cell_bits, cell_verdict, answer_tile, answer_inside}
use Rattle.store.specs.Face.{check, meaning}
use Rattle.row_lists.specs.Entries.{Entry, tiled_numbers}
use Rattle.comparisons.specs.Comparisons.{differ, tiling_of}

-- a cell that is stored, or unpacked
abbrev pub IsHeld : Result Cell Refusal → Type 0
IsHeld x = (cell_kind x ≡ 32) ⊎ (cell_kind x ≡ 34)

-- "differing in kind or bits", "stored includes unpacked": cells that do not differ
pub record SameCell (x y : Result Cell Refusal) : Type 0 where
  pub kinds : (IsHeld x × IsHeld y) ⊎ (cell_kind x ≡ cell_kind y)
  pub bits : cell_bits x ≡ cell_bits y

abbrev pub DifferExactly : Type 0
DifferExactly = (x y : Result Cell Refusal) → (differ x y ≡ false → SameCell x y) × (SameCell x y → differ x y ≡ false)

-- "five numbers, tile index and number inside last": those that the cell's own answer has
abbrev pub ListedWhere : Type 0
ListedWhere =
    (s : List ℕ) (k : ℕ) (x : Entry) → check s ≡ Ok tt → cell_verdict (meaning s k x.row x.column x.element) ≡ Ok tt →
    tiled_numbers (tiling_of s) x
    ≡ x.row ∷ x.column ∷ x.element ∷ answer_tile (meaning s k x.row x.column x.element) ∷ answer_inside (meaning s k x.row x.column x.element) ∷ []
