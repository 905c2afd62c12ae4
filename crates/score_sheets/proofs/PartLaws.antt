-- Scores by row and column: a run of them as it is put, a row, a rectangle, and whether one is all -1. Assumes nothing.
use Prim.Native.Nat.{ℕ, min, ◌+◌, ◌-◌, ◌*◌, ◌/◌, ◌%◌, ◌≤◌, ◌<◌}
use mathlib.Core.Path.{◌≡◌, refl, sym, ap, ◌∙◌}
use mathlib.Core.List.{List, [], ◌∷◌, ◌++◌, map, flat_map}
use mathlib.Core.Logic.{◌⊎◌, ⊎_elim}
use mathlib.Core.Bool.{Bool, true}
use native.Mathlib.Omega.{arith}
use native.Mathlib.Numerals.{add-one}
use native.Mathlib.Nat.{mul-le-mul_right}
use lib.ListN.{length, set}
use lib.Dec.{eqb}
use borrow.Author.Tests.{eq-eqb}
use Rattle.wire.specs.Tests.{◌≤?◌, all_below}
use Rattle.wire.specs.Bytes.{bytes_of, put}
use Rattle.wire.specs.Lists.{below}
use Rattle.wire.proofs.TestLaws.{yes, no, below_same, below_all}
use Rattle.wire.proofs.ByteLaws.{bytes_length}
use Rattle.wire.proofs.ListLaws.{below_long}
use Rattle.wire.proofs.PutLaws.{length_put, put_one, put_nil, put_out, first, then}
use Rattle.wire.proofs.RunLaws.{run_length, run_append, run_one, below_cut, below_alike, below_fewer}
use Rattle.blocks.specs.Tables.{tabled}
use Rattle.blocks.proofs.TableLaws.{tabled_long}
use Rattle.score_sheets.specs.Sheet.{sheet_rows, sheet_columns, score_at}
use Rattle.score_sheets.specs.Parts.{score_in, part_scores, part_unread}

-- two bytes
pub two_put : (d : List ℕ) (at v : ℕ) → v < 65536 → at + 2 ≤ length d → set (set d at (v % 256)) (at + 1) (v / 256) ≡ put d at (bytes_of 2 v)
unfolding bytes_of
two_put d at v h k =
    let a = put_one d at (v % 256) (omega arith) in
    let l : length (set d at (v % 256)) ≡ length d = ap length a ∙ length_put d at (v % 256 ∷ []) in
    let b = put_one (set d at (v % 256)) (at + 1) (v / 256) (omega arith) in
    let e : v / 256 % 256 ≡ v / 256 = omega arith in
    (then (first a refl) (v / 256 ∷ []) 1 (at + 1) b refl refl (omega arith)).is ∙ rw e

-- a run of numbers of two bytes

abbrev shorts : (ℕ → ℕ) → ℕ → List ℕ
shorts f n = flat_map (bytes_of 2) (map f (below n))

shorts_long : (f : ℕ → ℕ) (n : ℕ) → length (shorts f n) ≡ 2 * n
shorts_long f n = run_length (bytes_of 2) 2 (bytes_length 2) (map f (below n)) ∙ omega (arith, below_long f n)

shorts_cut : (f : ℕ → ℕ) (m n : ℕ) → shorts f (m + n) ≡ shorts f m ++ shorts (λ i. f (m + i)) n
shorts_cut f m n = ap (flat_map (bytes_of 2)) (below_cut f m n) ∙ run_append (bytes_of 2) (map f (below m)) (map (λ i. f (m + i)) (below n))

shorts_one : (f : ℕ → ℕ) (i : ℕ) → shorts (λ k. f (i + k)) 1 ≡ bytes_of 2 (f i)
unfolding below
shorts_one f i = let e : i + 0 ≡ i = omega arith in run_one (bytes_of 2) (f (i + 0)) ∙ ap (λ (k : ℕ). bytes_of 2 (f k)) e

-- so many of them are put
pub record Run (d : List ℕ) (at : ℕ) (f : ℕ → ℕ) (l : List ℕ) (i : ℕ) : Type 0 where
  pub kept : length l ≡ length d
  pub is : l ≡ put d at (shorts f i)

module _ (d : List ℕ) (at : ℕ) (f : ℕ → ℕ) where
  pub run_none : Run d at f d 0
  unfolding flat_map below
  run_none = record { kept = refl; is = sym (put_nil d at) }

  pub run_more : (l m : List ℕ) (i p v : ℕ) → Run d at f l i → m ≡ put l p (bytes_of 2 v) → p ≡ at + 2 * i → v ≡ f i → at + 2 * i + 2 ≤ length d → Run d at f m (i + 1)
  run_more l m i p v w x y z h =
      let g : shorts f (i + 1) ≡ shorts f i ++ bytes_of 2 v = shorts_cut f i 1 ∙ ap (λ (k : List ℕ). shorts f i ++ k) (shorts_one f i ∙ ap (bytes_of 2) (sym z)) in
      record {
        kept = ap length x ∙ length_put l p (bytes_of 2 v) ∙ w.kept;
        is = (then (first w.is (shorts_long f i)) (bytes_of 2 v) 2 p x (bytes_length 2 v) y (omega arith)).is ∙ ap (put d at) (sym g);
      }

  pub run_all : (l : List ℕ) (i n : ℕ) → Run d at f l i → i ≤ n → n ≤ i → l ≡ put d at (shorts f n)
  run_all l i n w h k = let q : i ≡ n = omega arith in rw (← q) w.is

-- a score past the sheet, and one on it

module _ (d : List ℕ) (row column rows columns : ℕ) (p : rows ≡ sheet_rows d) (q : columns ≡ sheet_columns d) where
  pub score_past : (row < rows → column < columns → ⊥) → 65535 ≡ score_in d row column
  unfolding score_in
  score_past f = rw (← no ((row + 1 ≤? sheet_rows d) ∷ (column + 1 ≤? sheet_columns d) ∷ []) (λ h. f (omega (arith, h.0)) (omega (arith, h.1.0))))

  pub score_there : row < rows → column < columns → score_at d (row * columns + column) ≡ score_in d row column
  unfolding score_in
  score_there h k = rw (← yes ((row + 1 ≤? sheet_rows d) ∷ (column + 1 ≤? sheet_columns d) ∷ []) (omega arith, (omega arith, tt)), ← q)

-- a row, of which `wide` scores lie on the sheet

module _ (e : List ℕ) (at : ℕ) (d : List ℕ) (row column n rows columns : ℕ) (p : rows ≡ sheet_rows d) (q : columns ≡ sheet_columns d) where
  abbrev row_of : ℕ → ℕ
  row_of i = score_in d row (column + i)

  pub row_past : (l : List ℕ) → l ≡ put e at (shorts (λ i. 65535) n) → (rows ≤ row) ⊎ (columns ≤ column) → l ≡ put e at (shorts row_of n)
  row_past l x o =
      x ∙ ap (λ (k : List ℕ). put e at (flat_map (bytes_of 2) k)) (below_alike (λ i. 65535) row_of n (λ i h. score_past d row (column + i) rows columns p q (λ a b. ⊎_elim (λ c. omega arith) (λ c. omega arith) o)))

  pub row_cut :
      (l m : List ℕ) (wide from : ℕ) → row < rows → column < columns → wide ≡ min n (columns - column) → from ≡ row * columns + column →
      l ≡ put e at (shorts (λ i. score_at d (from + i)) wide) → m ≡ put l (at + 2 * wide) (shorts (λ i. 65535) (n - wide)) → at + 2 * n ≤ length e →
      m ≡ put e at (shorts row_of n)
  row_cut l m wide from h k a b x y g =
      let c : wide + (n - wide) ≡ n = omega arith in
      let u : shorts (λ i. score_at d (from + i)) wide ≡ shorts row_of wide =
      ap (flat_map (bytes_of 2)) (below_alike (λ i. score_at d (from + i)) row_of wide (λ i j. let z : from + i ≡ row * columns + (column + i) = omega arith in ap (score_at d) z ∙ score_there d row (column + i) rows columns p q h (omega arith))) in
      let v : shorts (λ i. 65535) (n - wide) ≡ shorts (λ i. row_of (wide + i)) (n - wide) =
      ap (flat_map (bytes_of 2)) (below_alike (λ i. 65535) (λ i. row_of (wide + i)) (n - wide) (λ i j. score_past d row (column + (wide + i)) rows columns p q (λ s t. omega arith))) in
      let w =
      then (first (x ∙ ap (put e at) u) (shorts_long row_of wide)) (shorts (λ i. row_of (wide + i)) (n - wide)) (2 * (n - wide)) (at + 2 * wide)
      (y ∙ ap (put l (at + 2 * wide)) v) (shorts_long (λ i. row_of (wide + i)) (n - wide)) refl (omega arith) in
      w.is ∙ ap (put e at) (sym (shorts_cut row_of wide (n - wide)) ∙ ap (shorts row_of) c)

-- rows, one at a time

pub record Rows (e : List ℕ) (at : ℕ) (d : List ℕ) (row column n : ℕ) (l : List ℕ) (p r : ℕ) : Type 0 where
  pub place : p ≡ at + r * n * 2
  pub kept : length l ≡ length e
  pub is : l ≡ put e at (flat_map (bytes_of 2) (part_scores d row column r n))

pub part_long : (d : List ℕ) (row column m n : ℕ) → length (flat_map (bytes_of 2) (part_scores d row column m n)) ≡ m * n * 2
unfolding part_scores
part_long d row column m n =
    run_length (bytes_of 2) 2 (bytes_length 2) (part_scores d row column m n) ∙ ap (λ (k : ℕ). k * 2) (tabled_long m n (λ r c. score_in d (row + r) (column + c)))

part_more :
    (d : List ℕ) (row column r n : ℕ) →
    flat_map (bytes_of 2) (part_scores d row column (r + 1) n)
    ≡ flat_map (bytes_of 2) (part_scores d row column r n) ++ shorts (λ i. score_in d (row + r) (column + i)) n
unfolding part_scores tabled
part_more d row column r n = rw (add-one r) (run_append (bytes_of 2) (tabled r n (λ i c. score_in d (row + i) (column + c))) (map (λ c. score_in d (row + r) (column + c)) (below n)))

-- the next row fits
row_fits : (m r n at room : ℕ) → r < m → at + m * n * 2 ≤ room → at + r * n * 2 + 2 * n ≤ room
row_fits m r n at room h k = let l : (r + 1) * n ≤ m * n = mul-le-mul_right n (omega arith) in omega arith

module _ (e : List ℕ) (at : ℕ) (d : List ℕ) (row column n : ℕ) where
  pub rows_none : Rows e at d row column n e at 0
  unfolding part_scores tabled flat_map
  rows_none = record { place = omega arith; kept = refl; is = sym (put_nil e at) }

  module _ (l : List ℕ) (p r m : ℕ) (w : Rows e at d row column n l p r) (h : r < m) (k : at + m * n * 2 ≤ length e) where
    pub rows_fit : (p + 2 * n ≤ length l) × (p + 2 * n ≤ length e)
    rows_fit = let g = row_fits m r n at (length e) h k in (omega (arith, w.place, w.kept), omega (arith, w.place))

    pub rows_more : (b : List ℕ) → b ≡ put l p (shorts (λ i. score_in d (row + r) (column + i)) n) → Rows e at d row column n b (p + 2 * n) (r + 1)
    rows_more b x =
        let f : ℕ → ℕ = λ i. score_in d (row + r) (column + i) in
        let g = row_fits m r n at (length e) h k in
        let z = then (first w.is (part_long d row column r n)) (shorts f n) (2 * n) p x (shorts_long f n) w.place (omega arith) in
        record {
          place = omega (arith, w.place);
          kept = ap length x ∙ length_put l p (shorts f n) ∙ w.kept;
          is = z.is ∙ ap (put e at) (sym (part_more d row column r n));
        }

  pub rows_all : (l : List ℕ) (p r m : ℕ) → Rows e at d row column n l p r → r ≤ m → m ≤ r → l ≡ put e at (flat_map (bytes_of 2) (part_scores d row column m n))
  rows_all l p r m w h k = let q : r ≡ m = omega arith in rw (← q) w.is

  pub rows_out : (m : ℕ) → length e < at + m * n * 2 → e ≡ put e at (flat_map (bytes_of 2) (part_scores d row column m n))
  rows_out m h = put_out e at (flat_map (bytes_of 2) (part_scores d row column m n)) (part_long d row column m n) h

-- whether all are -1: those past the sheet are

module _ (d : List ℕ) (row column m n rows columns : ℕ) (p : rows ≡ sheet_rows d) (q : columns ≡ sheet_columns d) where
  abbrev minus : ℕ → ℕ → Bool
  minus r c = eqb (score_in d (row + r) (column + c)) 65535

  minus_past : (r c : ℕ) → (row + r < rows → column + c < columns → ⊥) → minus r c ≡ true
  minus_past r c f = eq-eqb _ 65535 (sym (score_past d (row + r) (column + c) rows columns p q f))

  pub unread_past : columns ≤ column → true ≡ part_unread d row column m n
  unfolding part_unread
  unread_past h = sym (below_all m _ (λ r k. below_all n (minus r) (λ c l. minus_past r c (λ a b. omega arith))))

  module _ (high wide : ℕ) (x : high ≡ min m (rows - row)) (y : wide ≡ min n (columns - column)) where
    -- a row on the sheet, as far as the sheet goes
    pub row_unread :
        (r from : ℕ) (b : Bool) → r < high → from ≡ (row + r) * columns + column → column < columns → b ≡ all_below wide (λ i. eqb (score_at d (from + i)) 65535) →
        b ≡ all_below n (minus r)
    row_unread r from b h e k z =
        z
        ∙ below_same wide _ (minus r)
        (λ i l.
        let a : from + i ≡ (row + r) * columns + (column + i) = omega arith in
        ap (λ (v : ℕ). eqb v 65535) (ap (score_at d) a ∙ score_there d (row + r) (column + i) rows columns p q (omega arith) (omega arith)))
        ∙ sym (below_fewer n wide (minus r) (omega arith) (λ i l j. minus_past r i (λ a c. omega arith)))

    pub unread_high : (b : Bool) → b ≡ all_below high (λ r. all_below n (minus r)) → b ≡ part_unread d row column m n
    unfolding part_unread
    unread_high b e =
        e ∙ sym (below_fewer m high (λ r. all_below n (minus r)) (omega arith) (λ r l j. below_all n (minus r) (λ c k. minus_past r c (λ a f. omega arith))))
