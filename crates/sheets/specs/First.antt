-- How a walk in any order finds the first fault by rows of a grid of so many rows and columns: each faulty cell weighs what is left from it
-- to the grid's end, and the greatest weight counts; 0 is none.
use Rattle.std.specs.Prelude.{ℕ, max, ◌-◌, ◌+◌, ◌*◌, ◌/◌, ◌%◌, ◌≡◌, Bool, true, false, eqb, Err, Ok, Result, ⊤}
use Rattle.answer.specs.declared.Refusal.{Refusal}
use Rattle.wire.specs.Pick.{pick}
use Rattle.blocks.specs.Folds.{fold_inside}
use Rattle.answer.specs.Refusals.{unless_refused}

unfoldable pub is_fault : Result ⊤ Refusal → Bool
is_fault (Ok accepted) = false
is_fault (Err r) = true

unfoldable pub weight : ℕ → ℕ → (ℕ → ℕ → Result ⊤ Refusal) → ℕ → ℕ → ℕ
weight rows columns g r c = pick (is_fault (g r c)) (rows * columns - (r * columns + c)) 0

unfoldable pub heaviest : ℕ → ℕ → (ℕ → ℕ → Result ⊤ Refusal) → ℕ → ℕ → ℕ → ℕ → ℕ
heaviest rows columns g top bottom left right = fold_inside max 0 top bottom left right (weight rows columns g)

-- the fault of the cell with that weight is the first by rows
unfoldable pub fault_at : ℕ → ℕ → (ℕ → ℕ → Result ⊤ Refusal) → ℕ → Result ⊤ Refusal
fault_at rows columns g w = pick (eqb w 0) (Ok tt) (g ((rows * columns - w) / columns) ((rows * columns - w) % columns))

abbrev pub FirstByRows : Type 0
FirstByRows =
    (rows columns : ℕ) (g : ℕ → ℕ → Result ⊤ Refusal) →
    fold_inside (unless_refused Err) (Ok tt) 0 rows 0 columns g ≡ fault_at rows columns g (heaviest rows columns g 0 rows 0 columns)
