-- The predictors for integer data (G 5.1.2 to 5.1.4): cells from their residuals, and residuals from their cells. A number is
-- that of its 32 bits, so a negative one counts 4294967296 more.
use Rattle.std.specs.Prelude.{ℕ, zero, suc, ◌+◌, ◌-◌, ◌%◌, List, [], ◌∷◌, ◌++◌, take, drop, replicate, ◌==◌, slice_index}
use Rattle.wire.specs.Pick.{pick}

-- document 02, Req 01: 'sums and differences wrap at 32 bits'
unfoldable pub plus : ℕ → ℕ → ℕ
plus a b = (a + b) % 4294967296

-- the number that gives a when b is added
unfoldable pub minus : ℕ → ℕ → ℕ
minus a b = (a + (4294967296 - b % 4294967296)) % 4294967296

-- the linear predictor (G 5.1.3, 'Zp = 2 x Zb - Za', and G 5.1.4's table) from the cell to the left and the second to the left. A
-- column with one cell to its left has no line, and is as that cell: the second column of G 5.1.4, 'steps for cells the tile lacks left
-- out' (document 02). The table's D-(2C-A) is a slip for D-(2C-B) (docs/DECISIONS.md, A58)
unfoldable pub linear : ℕ → ℕ → ℕ → ℕ
linear i left second = pick (i == 1) left (minus (plus left left) second)

-- the triangle predictor (G 5.1.3, 'Zp = Zb + Zc - Za') from the cell to the left, the one above, and the one above that to the
-- left
unfoldable pub triangle : List ℕ → ℕ → ℕ → ℕ
triangle above i left = minus (plus left (slice_index above i)) (slice_index above (i - 1))

-- what predictor p says of the cell in column i: 0 is differencing, 1 linear, 2 triangle (G 6). By each the first cell of a row is
-- as 'the first value in the row that preceded it' (G 5.1.2; the first columns of G 5.1.4), and by differencing any other is as
-- 'the cell that immediately preceded it' (G 5.1.2)
unfoldable pub predicted : ℕ → List ℕ → ℕ → ℕ → ℕ → ℕ
predicted p above i left second =
    pick (i == 0) (slice_index above 0)
    (pick (p == 0) left
    (pick (p == 1) (linear i left second)
    (triangle above i left)))

-- G 5.1.1: 'residuals are used as correction factors that adjust the predicted values'. The cells from column i on
unfoldable pub row_from : ℕ → List ℕ → ℕ → ℕ → ℕ → List ℕ → List ℕ
row_from p above i left second [] = []
row_from p above i left second (d ∷ ds) =
    plus (predicted p above i left second) d ∷ row_from p above (i + 1) (plus (predicted p above i left second) d) left ds

-- the cells of a row, from the row above and its residuals
unfoldable pub row_of : ℕ → List ℕ → List ℕ → List ℕ
row_of p above ds = row_from p above 0 0 0 ds

-- G 5.1.1: a residual is 'actual value minus predicted value'. Those from column i on
unfoldable pub left_from : ℕ → List ℕ → ℕ → ℕ → ℕ → List ℕ → List ℕ
left_from p above i left second [] = []
left_from p above i left second (v ∷ vs) = minus v (predicted p above i left second) ∷ left_from p above (i + 1) v left vs

-- the residuals of a row, from the row above and its cells
unfoldable pub left_of : ℕ → List ℕ → List ℕ → List ℕ
left_of p above vs = left_from p above 0 0 0 vs

-- the cells of k rows of w columns, row by row: G 5.1.4's tables and G 9, 'this ordering scheme is also used when data is
-- serialized'. The order of the residuals stands here alone
unfoldable pub cell_rows : ℕ → ℕ → List ℕ → ℕ → List ℕ → List ℕ
cell_rows p w above zero ds = []
cell_rows p w above (suc k) ds = row_of p above (take w ds) ++ cell_rows p w (row_of p above (take w ds)) k (drop w ds)

-- and the residuals of such cells
unfoldable pub left_rows : ℕ → ℕ → List ℕ → ℕ → List ℕ → List ℕ
left_rows p w above zero vs = []
left_rows p w above (suc k) vs = left_of p above (take w vs) ++ left_rows p w (take w vs) k (drop w vs)

-- above the first row stands 0, so that the seed of G 5.1.2 is the first residual
abbrev pub no_row : ℕ → List ℕ
no_row w = replicate w 0

-- the cells of a tile
unfoldable pub tile_cells : ℕ → ℕ → ℕ → List ℕ → List ℕ
tile_cells p rows columns ds = cell_rows p columns (no_row columns) rows ds
