-- Each cell is a number of 32 bits. Assumes nothing.
use Rattle.std.proofs.Common.{ℕ, zero, suc, ◌+◌, ◌<◌, List, [], ◌∷◌, ◌++◌, get_or, take, drop, mod-lt, arith}
use Rattle.predict.specs.Predict.{plus, row_from, row_of, cell_rows, no_row, tile_cells}

append_small : (n : ℕ) → 0 < n → (a b : List ℕ) → ((j : ℕ) → get_or a j 0 < n) → ((j : ℕ) → get_or b j 0 < n) → (j : ℕ) → get_or (a ++ b) j 0 < n
append_small n h [] b f g j = g j
append_small n h (x ∷ xs) b f g zero = f 0
append_small n h (x ∷ xs) b f g (suc j) = append_small n h xs b (λ i. f (suc i)) g j

row_small : (p : ℕ) (above : List ℕ) (i left second : ℕ) (ds : List ℕ) (j : ℕ) → get_or (row_from p above i left second ds) j 0 < 4294967296
unfolding row_from plus
row_small p above i left second [] j = omega arith
row_small p above i left second (d ∷ ds) zero = mod-lt _ (omega arith)
row_small p above i left second (d ∷ ds) (suc j) = row_small p above (i + 1) _ left ds j

rows_small : (p w : ℕ) (above : List ℕ) (k : ℕ) (ds : List ℕ) (j : ℕ) → get_or (cell_rows p w above k ds) j 0 < 4294967296
unfolding cell_rows row_of
rows_small p w above zero ds j = omega arith
rows_small p w above (suc k) ds j =
    append_small 4294967296 (omega arith) (row_of p above (take w ds)) _ (row_small p above 0 0 0 (take w ds)) (rows_small p w (row_of p above (take w ds)) k (drop w ds)) j

pub cell_small : (p rows columns : ℕ) (ds : List ℕ) (j : ℕ) → get_or (tile_cells p rows columns ds) j 0 < 4294967296
unfolding tile_cells
cell_small p rows columns ds j = rows_small p columns (no_row columns) rows ds j
