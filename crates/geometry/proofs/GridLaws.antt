-- Rows and columns of a grid, its tiles, and the cells of a tile. Assumes nothing.
use Prim.Native.Nat.{ℕ, ◌+◌, ◌*◌, ◌/◌, ◌%◌, ◌-◌, ◌≤◌, ◌<◌}
use mathlib.Core.Path.{◌≡◌, sym, ap, ◌∙◌}
use mathlib.Core.List.{List}
use native.Mathlib.Omega.{arith}
use native.Mathlib.Nat.{mul-add-div_right, mul-add-mod_self_right, div-eq_of_lt, mod-eq_of_lt, div-add-mod', mod-lt, mul-le-mul_right, div-lt_iff_lt-mul}
use Rattle.header.specs.Fields.{grid_rows, grid_columns, tile_rows, tile_columns}
use Rattle.geometry.specs.Tiles.{tiles_along, tile_of, inside_of, tile_in, cell_tile, cell_inside, tiles_in, tile_count}
use Rattle.geometry.proofs.TileLaws.{along_is, along_small}

-- a number in rows of w

module _ (w a b : ℕ) (h : b < w) where
  pub row_of : (a * w + b) / w ≡ a
  row_of = let e = div-eq_of_lt h in mul-add-div_right (omega arith) a b ∙ omega arith

  pub column_of : (a * w + b) % w ≡ b
  column_of = mul-add-mod_self_right a w b ∙ mod-eq_of_lt h

  pub grid_less : (n : ℕ) → a < n → a * w + b < n * w
  grid_less n l = let m : (a + 1) * w ≤ n * w = mul-le-mul_right w (omega arith) in omega arith

-- a row and a column fix the number
pub same_index : (w i j : ℕ) → i / w ≡ j / w → i % w ≡ j % w → i ≡ j
same_index w i j e f = sym (div-add-mod' i w) ∙ rw (e, f) (div-add-mod' j w)

-- cells and tiles

-- a place inside the grid stands in one of the tiles along its side
pub along_less : (side tile i : ℕ) → 0 < tile → i < side → i / tile < tiles_along side tile
unfolding tiles_along
along_less side tile i p h =
    let e = div-add-mod' (side + (tile - 1)) tile in
    let m = mod-lt (side + (tile - 1)) p in
    (div-lt_iff_lt-mul p).1 (omega arith)

-- a cell's number inside its tile is below the tile's cells
pub inside_less : (h w r c : ℕ) → 0 < h → 0 < w → inside_of h w r c < h * w
unfolding inside_of
inside_less h w r c p q = grid_less w (r % h) (c % w) (mod-lt c q) h (mod-lt r p)

-- the tile fixes its place in the row of tiles
pub one_column :
    (columns h w r c r2 c2 : ℕ) → 0 < w → c < columns → c2 < columns → tile_in columns h w r c ≡ tile_in columns h w r2 c2 → c / w ≡ c2 / w
unfolding tile_in tile_of
one_column columns h w r c r2 c2 p k l e =
    let n = tiles_along columns w in
    sym (column_of n _ _ (along_less columns w c p k)) ∙ ap (λ (x : ℕ). x % n) e ∙ column_of n _ _ (along_less columns w c2 p l)

-- along a row of a tile the number inside rises by one from column to column
pub inside_along :
    (s : List ℕ) (row x y : ℕ) → 0 < tile_columns s → x ≤ y → y < grid_columns s → cell_tile s row y ≡ cell_tile s row x →
    cell_inside s row y ≡ cell_inside s row x + (y - x)
unfolding cell_tile cell_inside inside_of
inside_along s row x y p h k e =
    let w = tile_columns s in
    let q : y / w ≡ x / w = one_column (grid_columns s) (tile_rows s) w row y row x p k (omega arith) e in
    let m : y / w * w ≡ x / w * w = ap (λ (n : ℕ). n * w) q in
    omega (arith, m, div-add-mod' x w, div-add-mod' y w)

-- the row and the column of a cell, from its tile and its number inside it
pub found_again :
    (columns h w r c : ℕ) → 0 < w → c < columns →
    (r ≡ tile_in columns h w r c / tiles_along columns w * h + inside_of h w r c / w) × (c ≡ tile_in columns h w r c % tiles_along columns w * w + inside_of h w r c % w)
unfolding tile_in tile_of inside_of
found_again columns h w r c p k =
    let a = along_less columns w c p k in
    let i = mod-lt c p in
    (sym (rw (row_of _ (r / h) _ a, row_of w (r % h) _ i) (div-add-mod' r h)), sym (rw (column_of _ (r / h) _ a, column_of w (r % h) _ i) (div-add-mod' c w)))

-- so these two fix the cell
pub one_cell :
    (columns h w r c r2 c2 : ℕ) → 0 < w → c < columns → c2 < columns → tile_in columns h w r c ≡ tile_in columns h w r2 c2 →
    inside_of h w r c ≡ inside_of h w r2 c2 → (r ≡ r2) × (c ≡ c2)
one_cell columns h w r c r2 c2 p k l e f =
    let a = found_again columns h w r c p k in
    let b = found_again columns h w r2 c2 p l in
    (a.0 ∙ rw (e, f) (sym b.0), a.1 ∙ rw (e, f) (sym b.1))

-- the tile of a cell of the grid is one of its tiles
pub tile_less : (s : List ℕ) (row column : ℕ) → 0 < tile_rows s → 0 < tile_columns s → row < grid_rows s → column < grid_columns s → cell_tile s row column < tile_count s
unfolding cell_tile tile_in tile_of tile_count tiles_in
tile_less s row column h w r c =
    grid_less (tiles_along (grid_columns s) (tile_columns s)) (row / tile_rows s) (column / tile_columns s) (along_less (grid_columns s) (tile_columns s) column w c)
    (tiles_along (grid_rows s) (tile_rows s)) (along_less (grid_rows s) (tile_rows s) row h r)

pub along_most : (side tile : ℕ) → 0 < tile → tiles_along side tile ≤ side
along_most side tile h = rw (← along_is side tile) (along_small side tile (λ z. omega arith))
