-- Cells and residuals give each other back. Assumes nothing.
use Rattle.std.proofs.Common.{◌≡◌, ℕ, zero, suc, ◌+◌, ◌*◌, ◌<◌, ◌≤◌, List, [], ◌∷◌, length, take, drop, refl, ap, ◌∙◌, ap₂, suc-mul, arith, length-append, length-drop, take-append-drop, length-take, get_or-drop, get_or-take, take_at, drop_at}
use mathlib.Core.Logic.{by_cases}
use native.Mathlib.Decide.{dec_le}
use lib.ListN.{get_or-eq_default}
use Rattle.m32.specs.Back.{Words}
use Rattle.m32.proofs.BackLaws.{words_tail}
use Rattle.predict.specs.Predict.{plus, minus, predicted, row_from, row_of, left_from, left_of, cell_rows, left_rows}
use Rattle.predict.specs.Inverse.{Inverse}

-- the one law on sums and differences, whatever is predicted
pub record Undone (g x : ℕ) : Type 0 where
  pub taken_added : plus g (minus x g) ≡ x
  pub added_taken : minus (plus g x) g ≡ x

undone : (g x : ℕ) → x < 4294967296 → Undone g x
unfolding plus minus
undone g x h = record { taken_added = omega arith; added_taken = omega arith }

module _ (p : ℕ) (above : List ℕ) where
  cells_again : (i left second : ℕ) (vs : List ℕ) → Words vs → row_from p above i left second (left_from p above i left second vs) ≡ vs
  unfolding row_from left_from
  cells_again i left second [] w = refl
  cells_again i left second (v ∷ vs) w =
      rw (undone (predicted p above i left second) v (w.small 0)).taken_added (ap (λ (l : List ℕ). v ∷ l) (cells_again (i + 1) v left vs (words_tail w)))

  lefts_again : (i left second : ℕ) (ds : List ℕ) → Words ds → left_from p above i left second (row_from p above i left second ds) ≡ ds
  unfolding row_from left_from
  lefts_again i left second [] w = refl
  lefts_again i left second (d ∷ ds) w =
      let g : ℕ = predicted p above i left second in
      ap₂ (λ (x : ℕ) (l : List ℕ). x ∷ l) (undone g d (w.small 0)).added_taken (lefts_again (i + 1) (plus g d) left ds (words_tail w))

  lefts_length : (i left second : ℕ) (vs : List ℕ) → length (left_from p above i left second vs) ≡ length vs
  unfolding left_from
  lefts_length i left second [] = refl
  lefts_length i left second (v ∷ vs) = ap suc (lefts_length (i + 1) v left vs)

  cells_length : (i left second : ℕ) (ds : List ℕ) → length (row_from p above i left second ds) ≡ length ds
  unfolding row_from
  cells_length i left second [] = refl
  cells_length i left second (d ∷ ds) = ap suc (cells_length (i + 1) (plus (predicted p above i left second) d) left ds)

  row_back : (vs : List ℕ) → Words vs → row_of p above (left_of p above vs) ≡ vs
  unfolding row_of left_of
  row_back vs w = cells_again 0 0 0 vs w

  left_back : (ds : List ℕ) → Words ds → left_of p above (row_of p above ds) ≡ ds
  unfolding row_of left_of
  left_back ds w = lefts_again 0 0 0 ds w

  pub row_length : (ds : List ℕ) → length (row_of p above ds) ≡ length ds
  unfolding row_of
  row_length ds = cells_length 0 0 0 ds

  left_length : (vs : List ℕ) → length (left_of p above vs) ≡ length vs
  unfolding left_of
  left_length vs = lefts_length 0 0 0 vs

-- row by row

words_drop : (n : ℕ) {xs : List ℕ} → Words xs → Words (drop n xs)
words_drop n {xs} w = record { small = λ i. rw (get_or-drop n xs i 0) (w.small (n + i)) }

words_take : (n : ℕ) {xs : List ℕ} → Words xs → Words (take n xs)
words_take n {xs} w =
    record {
      small = λ i.
          by_cases (dec_le n i) (λ h. let l : length (take n xs) ≤ i = rw length-take (omega arith) in rw (get_or-eq_default (take n xs) 0 l) (omega arith))
          (λ f. let l : i < n = omega arith in rw (get_or-take n xs i 0 l) (w.small i));
    }

module _ (w k : ℕ) (xs : List ℕ) (e : length xs ≡ suc k * w) where
  first_long : length (take w xs) ≡ w
  first_long = rw length-take (omega (arith, suc-mul k w))

  rest_long : length (drop w xs) ≡ k * w
  rest_long = rw length-drop (omega (arith, suc-mul k w))

pub rows_length : (p w : ℕ) (above : List ℕ) (k : ℕ) (ds : List ℕ) → length ds ≡ k * w → length (cell_rows p w above k ds) ≡ k * w
unfolding cell_rows
rows_length p w above zero ds e = omega arith
rows_length p w above (suc k) ds e =
    let a : List ℕ = row_of p above (take w ds) in
    length-append a (cell_rows p w a k (drop w ds))
    ∙ omega (arith, row_length p above (take w ds), first_long w k ds e, rows_length p w a k (drop w ds) (rest_long w k ds e), suc-mul k w)

rows_back : (p w : ℕ) (above : List ℕ) (k : ℕ) (vs : List ℕ) → length vs ≡ k * w → Words vs → cell_rows p w above k (left_rows p w above k vs) ≡ vs
unfolding cell_rows left_rows
rows_back p w above zero [] e s = refl
rows_back p w above zero (v ∷ vs) e s = absurd (omega arith)
rows_back p w above (suc k) vs e s =
    let a : List ℕ = left_of p above (take w vs) in
    let b : List ℕ = left_rows p w (take w vs) k (drop w vs) in
    let l : length a ≡ w = left_length p above (take w vs) ∙ first_long w k vs e in
    rw (take_at a b w l, drop_at a b w l, row_back p above (take w vs) (words_take w s), rows_back p w (take w vs) k (drop w vs) (rest_long w k vs e) (words_drop w s))
    (take-append-drop w vs)

lefts_back : (p w : ℕ) (above : List ℕ) (k : ℕ) (ds : List ℕ) → length ds ≡ k * w → Words ds → left_rows p w above k (cell_rows p w above k ds) ≡ ds
unfolding cell_rows left_rows
lefts_back p w above zero [] e s = refl
lefts_back p w above zero (d ∷ ds) e s = absurd (omega arith)
lefts_back p w above (suc k) ds e s =
    let a : List ℕ = row_of p above (take w ds) in
    let b : List ℕ = cell_rows p w a k (drop w ds) in
    let l : length a ≡ w = row_length p above (take w ds) ∙ first_long w k ds e in
    rw (take_at a b w l, drop_at a b w l, left_back p above (take w ds) (words_take w s), lefts_back p w a k (drop w ds) (rest_long w k ds e) (words_drop w s))
    (take-append-drop w ds)

pub inverse : Inverse
inverse = record { row_back = row_back; left_back = left_back; rows_back = rows_back; lefts_back = lefts_back }
