-- How the call goes: what each of its functions asks, and what it has filled. Rows and columns count from the rectangle's first. What
-- serves any walk over a rectangle tile by tile is in the store's `Pieces`.
use Rattle.std.specs.Prelude.{ℕ, ◌+◌, ◌*◌, ◌≤◌, List, length}
use Rattle.answer.specs.Answers.{cell_kind, cell_bits}
use Rattle.store.specs.declared.many.Rectangle.{Rectangle}
use Rattle.store.specs.Face.{most_grid_side}
use Rattle.blocks.specs.Tables.{Filled}
use Rattle.rectangles.specs.Rectangles.{cell_says}

-- no row or column of the rectangle is large, and both lists have room for its cells
pub record HasRoom (a : Rectangle) (k b : List ℕ) : Type 0 where
  pub rows_small : a.row + a.rows ≤ most_grid_side
  pub columns_small : a.column + a.columns ≤ most_grid_side
  pub kinds : a.rows * a.columns ≤ length k
  pub bits : a.rows * a.columns ≤ length b

-- both lists with the kinds and the bits of an area in their places
pub record Told (s : List ℕ) (ci : ℕ) (a : Rectangle) (area : ℕ → ℕ → Type 0) (k k' b b' : List ℕ) : Type 0 where
  pub kinds : Filled a.columns (cell_says cell_kind s ci a.e a.row a.column) area k k'
  pub bits : Filled a.columns (cell_says cell_bits s ci a.e a.row a.column) area b b'
