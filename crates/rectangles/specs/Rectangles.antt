-- The cells of a rectangle in one call, of an element of any type (docs/DECISIONS.md, A66). A rectangle is a first row and column and a
-- number of rows and of columns, each any 64-bit number. `ci` is the compressor index that the caller names.
use Rattle.std.specs.Prelude.{ℕ, ◌+◌, ◌*◌, ◌<◌, ◌≡◌, List, [], ◌∷◌, Bool, length, get_or, Result, Ok, Err}
use Rattle.answer.specs.declared.Refusal.{Refusal}
use Rattle.wire.specs.Pick.{pick}
use Rattle.wire.specs.Tests.{◌≤?◌, passes}
use Rattle.answer.specs.declared.Refusal.TheVariants.{OutsideGrid, Room}
use Rattle.answer.specs.declared.Cell.{Cell}
use Rattle.answer.specs.Refusals.{refusal_number, refusal_place, unless_refused}
use Rattle.store.specs.Face.{check, meaning, rectangle_inside}
use Rattle.blocks.specs.Tables.{tabled}

-- kn kinds and bn bits can be taken: else 13
unfoldable pub room_for : ℕ → ℕ → ℕ → ℕ → Bool
room_for rows columns kn bn = passes ((rows * columns ≤? kn) ∷ (rows * columns ≤? bn) ∷ [])

-- of a rectangle in the grid: 13, or the number of its cells
unfoldable pub given_in : ℕ → ℕ → ℕ → ℕ → Result ℕ Refusal
given_in rows columns kn bn = pick (room_for rows columns kn bn) (Ok (rows * columns)) (Err Room)

-- refused: the check's; 10 where the page lacks the element or the rectangle passes the grid; 13
unfoldable pub cells_given : List ℕ → ℕ → ℕ → ℕ → ℕ → ℕ → ℕ → ℕ → Result ℕ Refusal
cells_given s e row column rows columns kn bn =
    unless_refused Err (check s) (pick (rectangle_inside s e row column rows columns) (given_in rows columns kn bn) (Err OutsideGrid))

-- what f says of the cell in row r and column c of the rectangle, by the cell's meaning
unfoldable pub cell_says : (Result Cell Refusal → ℕ) → List ℕ → ℕ → ℕ → ℕ → ℕ → ℕ → ℕ → ℕ
cell_says f s ci e row column r c = f (meaning s ci (row + r) (column + c) e)

-- each cell by rows has its kind and bits: what is written of all of them; of a refused call nothing is
abbrev pub written : (Result Cell Refusal → ℕ) → List ℕ → ℕ → ℕ → ℕ → ℕ → ℕ → ℕ → Result ℕ Refusal → List ℕ
written f s ci e row column rows columns (Ok n) = tabled rows columns (cell_says f s ci e row column)
written f s ci e row column rows columns (Err r) = []

-- 0 and the number of cells, or the refusal's number and place
abbrev pub given_number : Result ℕ Refusal → ℕ
given_number (Ok n) = 0
given_number (Err r) = refusal_number r

abbrev pub given_count : Result ℕ Refusal → ℕ
given_count (Ok n) = n
given_count (Err r) = refusal_place r

-- what the lists then say: there are as many numbers as cells, and the cell in row r and column c has the one at r × columns + c
pub record ByRows (f : Result Cell Refusal → ℕ) (s : List ℕ) (ci e row column rows columns : ℕ) (l : List ℕ) : Type 0 where
  pub long : length l ≡ rows * columns
  pub each : (r c : ℕ) → r < rows → c < columns → get_or l (r * columns + c) 0 ≡ f (meaning s ci (row + r) (column + c) e)

abbrev pub CellsByRows : Type 0
CellsByRows =
    (f : Result Cell Refusal → ℕ) (s : List ℕ) (ci e row column rows columns n : ℕ) →
    ByRows f s ci e row column rows columns (written f s ci e row column rows columns (Ok n))
