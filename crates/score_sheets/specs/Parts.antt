-- The scores of a sheet d by row and column, and of a rectangle of m rows and n columns from a row and a column on, which may reach past
-- the sheet as a tile reaches past the grid (Req 13, "cells past the grid are -1").
use Rattle.std.specs.Prelude.{ℕ, ◌+◌, ◌*◌, List, [], ◌∷◌, Bool, eqb}
use Rattle.wire.specs.Pick.{pick}
use Rattle.wire.specs.Tests.{◌≤?◌, passes, all_below}
use Rattle.blocks.specs.Tables.{tabled}
use Rattle.score_sheets.specs.Sheet.{sheet_rows, sheet_columns, score_at, unread}

unfoldable pub score_in : List ℕ → ℕ → ℕ → ℕ
score_in d row column =
    pick (passes ((row + 1 ≤? sheet_rows d) ∷ (column + 1 ≤? sheet_columns d) ∷ [])) (score_at d (row * sheet_columns d + column)) unread

-- by rows
unfoldable pub part_scores : List ℕ → ℕ → ℕ → ℕ → ℕ → List ℕ
part_scores d row column m n = tabled m n (λ r c. score_in d (row + r) (column + c))

-- each of them is -1
unfoldable pub part_unread : List ℕ → ℕ → ℕ → ℕ → ℕ → Bool
part_unread d row column m n = all_below m (λ r. all_below n (λ c. eqb (score_in d (row + r) (column + c)) unread))
