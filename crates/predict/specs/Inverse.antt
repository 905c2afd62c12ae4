-- Document 01, 'Which form each place takes': the predictors' 'inverse proved modulo 2^32'.
use Rattle.std.specs.Prelude.{◌≡◌, ℕ, ◌*◌, List, length}
use Rattle.m32.specs.Back.{Words}
use Rattle.predict.specs.Predict.{row_of, left_of, cell_rows, left_rows}

-- by each predictor, whatever stands above: the residuals of cells give the cells, and the cells of residuals give the residuals
pub record Inverse : Type 0 where
  pub row_back : (p : ℕ) (above vs : List ℕ) → Words vs → row_of p above (left_of p above vs) ≡ vs
  pub left_back : (p : ℕ) (above ds : List ℕ) → Words ds → left_of p above (row_of p above ds) ≡ ds
  pub rows_back : (p w : ℕ) (above : List ℕ) (k : ℕ) (vs : List ℕ) → length vs ≡ k * w → Words vs → cell_rows p w above k (left_rows p w above k vs) ≡ vs
  pub lefts_back : (p w : ℕ) (above : List ℕ) (k : ℕ) (ds : List ℕ) → length ds ≡ k * w → Words ds → left_rows p w above k (cell_rows p w above k ds) ≡ ds
