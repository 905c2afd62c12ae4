-- How a product goes through a rectangle of cells. A piece is the part of the rectangle that lies in one tile; rows and columns count from
-- the rectangle's first. The pieces come a row of tiles after the other, each from left to right (`Walks` of `blocks`).
use Rattle.std.specs.Prelude.{ℕ, ◌+◌, ◌-◌, ◌*◌, ◌≤◌, ◌<◌, ◌≡◌, List, [], ◌∷◌, true, Ok, Result}
use Rattle.answer.specs.declared.Refusal.{Refusal}
use Rattle.wire.specs.Pick.{pick}
use Rattle.wire.specs.Tests.{◌≤?◌, passes}
use Rattle.blocks.specs.Blocks.{block_end, OneBlock}
use Rattle.blocks.specs.Tables.{Inside}
use Rattle.answer.specs.declared.Held.{Held}
use Rattle.answer.specs.Answers.{held_kind}
use Rattle.header.specs.Fields.{grid_rows, grid_columns, tile_rows, tile_columns}
use Rattle.header.specs.Element.{element}
use Rattle.geometry.specs.Tiles.{cell_tile, cell_inside}
use Rattle.check_header.specs.Ceilings.{most_grid_side}
use Rattle.page_check.specs.Stages.{check}
use Rattle.cells.specs.Meaning.{meaning}
use Rattle.cells.specs.Many.{held_cell, numbered_cell}
use Rattle.store.specs.declared.many.Rectangle.{Rectangle}
use Rattle.store.specs.declared.pieces.Piece.{Piece}
use Rattle.store.specs.declared.pieces.HeldPiece.{HeldPiece}
use Rattle.store.specs.Many.{rectangle_inside, tile_holding, number_holding}

-- the check has accepted the file, and the rectangle lies in its grid
pub record Accepts (s : List ℕ) (a : Rectangle) : Type 0 where
  pub accepted : check s ≡ Ok tt
  pub inside : rectangle_inside s a.e a.row a.column a.rows a.columns ≡ true

-- the same rectangle of another element
abbrev pub of_element : Rectangle → ℕ → Rectangle
of_element a e = record { e = e; row = a.row; column = a.column; rows = a.rows; columns = a.columns }

-- the whole grid
abbrev pub whole_grid : List ℕ → Rectangle
whole_grid s = record { e = 0; row = 0; column = 0; rows = grid_rows s; columns = grid_columns s }

-- two files with one grid, cut into tiles alike
pub record SameGrid (s t : List ℕ) : Type 0 where
  pub rows : grid_rows s ≡ grid_rows t
  pub columns : grid_columns s ≡ grid_columns t
  pub tile_rows_lem : tile_rows s ≡ tile_rows t
  pub tile_columns_lem : tile_columns s ≡ tile_columns t

-- where the row of tiles that holds row `top` ends, or the rectangle where that comes first
unfoldable pub band_end : List ℕ → Rectangle → ℕ → ℕ
band_end s a top = block_end a.row top (tile_rows s) a.rows

-- the piece of the rows from `top` to below `bottom` that starts in column `left`
unfoldable pub piece_in : List ℕ → Rectangle → ℕ → ℕ → ℕ → Piece
piece_in s a top bottom left =
    record {
      tile = tile_holding s (a.row + top) (a.column + left);
      inside = number_holding s (a.row + top) (a.column + left);
      top = top;
      bottom = bottom;
      left = left;
      right = block_end a.column left (tile_columns s) a.columns;
    }

-- the first piece of the row of tiles that holds row `top`. Of a rectangle without columns none is left: it starts behind the last row
unfoldable pub first_piece : List ℕ → Rectangle → ℕ → Piece
first_piece s a top =
    pick (passes ((1 ≤? a.columns) ∷ [])) (piece_in s a top (band_end s a top) 0) (piece_in s a a.rows a.rows 0)

-- the one behind a piece: beside it, or the first of the next row of tiles
unfoldable pub next_piece : List ℕ → Rectangle → Piece → Piece
next_piece s a p =
    pick (passes ((p.right + 1 ≤? a.columns) ∷ [])) (piece_in s a p.top p.bottom p.right) (first_piece s a p.bottom)

-- the cells of a piece lie in the tile of its first
pub record OneTile (s : List ℕ) (a : Rectangle) (top bottom left right : ℕ) : Type 0 where
  pub each : (r c : ℕ) → Inside top bottom left right r c → cell_tile s (a.row + r) (a.column + c) ≡ cell_tile s (a.row + top) (a.column + left)

-- p is a piece of the rectangle, not empty; from row to row of it the number inside the tile rises by the tile's columns, and along a row
-- by one
pub record AtPiece (s : List ℕ) (a : Rectangle) (p : Piece) : Type 0 where
  pub sides : (p.top < p.bottom) × ((p.bottom ≤ a.rows) × ((p.left < p.right) × (p.right ≤ a.columns)))
  pub low : p.bottom - p.top ≤ tile_rows s
  pub narrow : p.right - p.left ≤ tile_columns s
  pub tile : p.tile ≡ tile_holding s (a.row + p.top) (a.column + p.left)
  pub one : OneTile s a p.top p.bottom p.left p.right
  pub numbers :
      (r c : ℕ) → Inside p.top p.bottom p.left p.right r c →
      cell_inside s (a.row + r) (a.column + c) ≡ p.inside + (r - p.top) * tile_columns s + (c - p.left)

-- a walk that starts at row `from` stands at p: behind the last row, or at a piece
pub record Walks (s : List ℕ) (a : Rectangle) (from : ℕ) (p : Piece) : Type 0 where
  pub from_first : from ≤ p.top
  pub to_last : p.top ≤ a.rows
  pub sides : p.top ≤ p.bottom
  pub ended : p.top ≡ a.rows → p.left ≡ 0
  pub band : OneBlock a.row p.top p.bottom (tile_rows s)
  pub piece : p.top < a.rows → AtPiece s a p

-- what is held gives the meaning of each cell of a row, by the number inside the tile that rises from `start` on
pub record Numbered (s : List ℕ) (ci : ℕ) (a : Rectangle) (x : Result Held Refusal) (m : List ℕ) (kind fill tile start r left right : ℕ) : Type 0 where
  pub small : start + (right - left) ≤ most_grid_side * most_grid_side
  pub each :
      (c : ℕ) → left ≤ c → c < right → numbered_cell s kind fill m tile (start + (c - left)) x ≡ meaning s ci (a.row + r) (a.column + c) a.e

-- what is held, with the memory m, gives the meaning of each cell of a piece; and where it has a kind, each row is numbered
pub record Answered (s : List ℕ) (ci : ℕ) (a : Rectangle) (p : Piece) (x : Result Held Refusal) (m : List ℕ) : Type 0 where
  pub each :
      (r c : ℕ) → Inside p.top p.bottom p.left p.right r c →
      held_cell s ci x m (a.row + r) (a.column + c) a.e ≡ meaning s ci (a.row + r) (a.column + c) a.e
  pub numbered :
      (held_kind x ≡ 0 → ⊥) → (r : ℕ) → p.top ≤ r → r < p.bottom →
      Numbered s ci a x m (element s a.e).kind (element s a.e).fill p.tile (p.inside + (r - p.top) * tile_columns s) r p.left p.right

-- a piece that can be told: it is one of its rectangle, and what is held gives its cells
pub record Ready (x : HeldPiece) : Type 0 where
  pub accepts : Accepts x.file.now x.a
  pub at : AtPiece x.file.now x.a x.p
  pub answered : Answered x.file.now x.compressor x.a x.p x.held x.memory.now
  pub kind : x.kind ≡ (element x.file.now x.a.e).kind
  pub fill : x.fill ≡ (element x.file.now x.a.e).fill
  pub across : x.across ≡ tile_columns x.file.now
