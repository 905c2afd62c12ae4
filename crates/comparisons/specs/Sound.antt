-- What an answer tells: each differing cell once and no other, the same cells for swapped pages, no cell for a page against itself; and the
-- refusals in their order.
use Rattle.std.specs.Prelude.{ℕ, ◌<◌, ◌≡◌, List, length, Err, Ok}
use Rattle.answer.specs.declared.Refusal.{Refusal}
use Rattle.answer.specs.Answers.{cell_verdict}
use Rattle.store.specs.Face.{grid_rows, grid_columns, tile_rows, tile_columns, element_count, element, check, meaning}
use Rattle.row_lists.specs.Entries.{EachOnce}
use Rattle.comparisons.specs.declared.Comparison.TheVariants.{Count, First, Second, Unlike}
use Rattle.comparisons.specs.Comparisons.{differ_at, comparison, differing_cells, written}

-- "each cell differing in kind or bits once, no other, by row, then column, then element, and the full number of them"
pub record CellsOnce (s : List ℕ) (k : ℕ) (t : List ℕ) (j n : ℕ) : Type 0 where
  pub once : EachOnce (differ_at (meaning s k) (meaning t j)) (element_count s) (grid_rows s) (grid_columns s) (differing_cells s k t j)
  pub full : n ≡ length (differing_cells s k t j)

abbrev pub ComparedOnce : Type 0
ComparedOnce = (s : List ℕ) (k : ℕ) (t : List ℕ) (j n : ℕ) → comparison s k t j ≡ Count n → CellsOnce s k t j n

-- "Unrefused, swapped pages give the same cells": the same number, and the same list in a buffer of any length
pub record SameSwapped (s : List ℕ) (k : ℕ) (t : List ℕ) (j n : ℕ) : Type 0 where
  pub number : comparison t j s k ≡ Count n
  pub list : (room : ℕ) → written t j s k room (Count n) ≡ written s k t j room (Count n)

abbrev pub Swapped : Type 0
Swapped = (s : List ℕ) (k : ℕ) (t : List ℕ) (j n : ℕ) → comparison s k t j ≡ Count n → SameSwapped s k t j n

-- every cell of the grid can be read
pub record Readable (s : List ℕ) (k : ℕ) : Type 0 where
  pub each : (r c e : ℕ) → r < grid_rows s → c < grid_columns s → e < element_count s → cell_verdict (meaning s k r c e) ≡ Ok tt

abbrev pub Same : Type 0
Same = (s : List ℕ) (k : ℕ) → check s ≡ Ok tt → Readable s k → comparison s k s k ≡ Count 0

-- "equal grid, tile sides and element types", in plain words
pub record EqualShape (s t : List ℕ) : Type 0 where
  pub rows : grid_rows s ≡ grid_rows t
  pub columns : grid_columns s ≡ grid_columns t
  pub tile_rows_lem : tile_rows s ≡ tile_rows t
  pub tile_columns_lem : tile_columns s ≡ tile_columns t
  pub elements : element_count s ≡ element_count t
  pub types : (e : ℕ) → e < element_count s → (element s e).kind ≡ (element t e).kind

-- every cell of the grid before one, by row, then column, then element, can be read in both pages
pub record ReadBefore (s : List ℕ) (k : ℕ) (t : List ℕ) (j r c e : ℕ) : Type 0 where
  pub above :
      (i l m : ℕ) → i < r → l < grid_columns s → m < element_count s → (cell_verdict (meaning s k i l m) ≡ Ok tt) × (cell_verdict (meaning t j i l m) ≡ Ok tt)
  pub left : (l m : ℕ) → l < c → m < element_count s → (cell_verdict (meaning s k r l m) ≡ Ok tt) × (cell_verdict (meaning t j r l m) ≡ Ok tt)
  pub element : (m : ℕ) → m < e → (cell_verdict (meaning s k r c m) ≡ Ok tt) × (cell_verdict (meaning t j r c m) ≡ Ok tt)

-- the refusals in their order
pub record InOrder (s : List ℕ) (k : ℕ) (t : List ℕ) (j : ℕ) : Type 0 where
  pub first : (x : Refusal) → check s ≡ Err x → comparison s k t j ≡ First x
  pub second : (x : Refusal) → check s ≡ Ok tt → check t ≡ Err x → comparison s k t j ≡ Second x
  pub unlike : check s ≡ Ok tt → check t ≡ Ok tt → (EqualShape s t → ⊥) → comparison s k t j ≡ Unlike
  pub cell_first :
      check s ≡ Ok tt → check t ≡ Ok tt → EqualShape s t → (r c e : ℕ) → r < grid_rows s → c < grid_columns s → e < element_count s → ReadBefore s k t j r c e →
      (x : Refusal) → cell_verdict (meaning s k r c e) ≡ Err x → comparison s k t j ≡ First x
  pub cell_second :
      check s ≡ Ok tt → check t ≡ Ok tt → EqualShape s t → (r c e : ℕ) → r < grid_rows s → c < grid_columns s → e < element_count s → ReadBefore s k t j r c e →
      (x : Refusal) → cell_verdict (meaning s k r c e) ≡ Ok tt → cell_verdict (meaning t j r c e) ≡ Err x → comparison s k t j ≡ Second x
  -- and no other
  pub counted :
      check s ≡ Ok tt → check t ≡ Ok tt → EqualShape s t → Readable s k → Readable t j → comparison s k t j ≡ Count (length (differing_cells s k t j))

abbrev pub RefusedInOrder : Type 0
RefusedInOrder = (s : List ℕ) (k : ℕ) (t : List ℕ) (j : ℕ) → InOrder s k t j
