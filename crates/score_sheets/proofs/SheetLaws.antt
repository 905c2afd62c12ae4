-- Whether a sheet is right, test by test, and its first bytes as they are put. Assumes nothing.
use Prim.Native.Nat.{ℕ, ◌+◌, ◌*◌, ◌/◌, ◌%◌, ◌≤◌, ◌<◌}
use mathlib.Core.Path.{◌≡◌, refl, sym, ap, ◌∙◌}
use mathlib.Core.List.{List, [], ◌∷◌}
use mathlib.Core.Bool.{Bool, true, false}
use native.Mathlib.Omega.{arith}
use native.Mathlib.Nat.{mul-le-mul}
use lib.ListN.{length}
use lib.Dec.{eqb}
use borrow.Author.Tests.{le-leb, lt-leb, eq-eqb}
use Rattle.wire.specs.Tests.{Test, ◌≤?◌, ◌≡?◌, both, passes, all_below}
use Rattle.wire.specs.Bytes.{byte_at, put}
use Rattle.wire.specs.Big.{big_at, big_of}
use Rattle.wire.proofs.TestLaws.{means, yes, no, not_both, either_way}
use Rattle.wire.proofs.PutLaws.{put_out, first, then}
use Rattle.wire.proofs.BigLaws.{big_length}
use Rattle.score_sheets.specs.Sheet.{sheet_rows, sheet_columns, score_at, score_right, sheet_right, sheet_head}

-- the fields

pub rows_read : (d : List ℕ) (v : ℕ) → v ≡ big_at 2 d 5 → v ≡ sheet_rows d
unfolding sheet_rows
rows_read d v e = e

pub columns_read : (d : List ℕ) (v : ℕ) → v ≡ big_at 2 d 7 → v ≡ sheet_columns d
unfolding sheet_columns
columns_read d v e = e

pub score_read : (d : List ℕ) (i v : ℕ) → v ≡ big_at 2 d (9 + 2 * i) → v ≡ score_at d i
unfolding score_at
score_read d i v e = e

-- a score

pub score_low : (v : ℕ) → v ≤ 1000 → true ≡ score_right v
unfolding score_right
score_low v h = rw (le-leb v 1000 h)

pub score_high : (v : ℕ) → 1000 < v → eqb v 65535 ≡ score_right v
unfolding score_right
score_high v h = rw (lt-leb v 1000 h)

-- no product of two sides is too large
pub sides_small : (m n : ℕ) → m < 65536 → n < 65536 → m * n ≤ 4294967296
sides_small m n h k = let p : m ≤ 65536 = omega arith in let q : n ≤ 65536 = omega arith in mul-le-mul p q

pub row_small : (row rows columns : ℕ) → row < rows → rows < 65536 → columns < 65536 → row * columns + columns ≤ 4294967296
row_small row rows columns h k l =
    let a : row + 1 ≤ 65536 = omega arith in
    let b : columns ≤ 65536 = omega arith in
    let p : (row + 1) * columns ≤ 65536 * 65536 = mul-le-mul a b in
    omega arith

-- the tests

abbrev head_list : List ℕ → List Test
head_list d = (9 ≤? length d) ∷ (big_at 4 d 0 + 4 ≡? length d) ∷ (byte_at d 4 ≡? 1) ∷ []

module _ (d : List ℕ) where
  pub head_short : length d < 9 → false ≡ passes (head_list d)
  head_short h = no (head_list d) (λ e. absurd (omega (arith, e.0)))

  pub head_length_lem : (v : ℕ) → v ≡ big_at 4 d 0 → (v + 4 ≡ length d → ⊥) → false ≡ passes (head_list d)
  head_length_lem v p h = no (head_list d) (λ e. h (rw p e.1.0))

  pub head_version : (v w : ℕ) → 9 ≤ length d → v ≡ big_at 4 d 0 → v + 4 ≡ length d → w ≡ byte_at d 4 → eqb w 1 ≡ passes (head_list d)
  unfolding passes
  head_version v w h p e q =
      rw (le-leb 9 (length d) h, ← p, e, eq-eqb (length d) (length d) refl, ← q) (alone (eqb w 1))
    where
      alone : (b : Bool) → b ≡ both b true
      alone true = refl
      alone false = refl

module _ (d : List ℕ) (b : Bool) (p : b ≡ passes (head_list d)) where
  pub right_head : b ≡ false → false ≡ sheet_right d
  unfolding sheet_right
  right_head e = no _ (λ h. not_both (sym (yes (head_list d) (h.0, (h.1.0, (h.1.1.0, tt))))) (sym p ∙ e))

  module _ (e : b ≡ true) (rows columns : ℕ) (r : rows ≡ sheet_rows d) (c : columns ≡ sheet_columns d) where
    pub right_rows : rows ≡ 0 → false ≡ sheet_right d
    unfolding sheet_right
    right_rows z = no _ (λ h. omega (arith, h.1.1.1.0))

    pub right_columns : columns ≡ 0 → false ≡ sheet_right d
    unfolding sheet_right
    right_columns z = no _ (λ h. omega (arith, h.1.1.1.1.0))

    pub right_length : (9 + 2 * (rows * columns) ≡ length d → ⊥) → false ≡ sheet_right d
    unfolding sheet_right
    right_length f = no _ (λ h. f (rw (r, c) h.1.1.1.1.1.0))

    pub right_scores :
        (v : Bool) → (rows ≡ 0 → ⊥) → (columns ≡ 0 → ⊥) → 9 + 2 * (rows * columns) ≡ length d →
        v ≡ all_below (rows * columns) (λ i. score_right (score_at d i)) → v ≡ sheet_right d
    unfolding sheet_right
    right_scores v g k l s =
        let m = means (head_list d) (sym p ∙ e) in
        let a : v ≡ all_below (sheet_rows d * sheet_columns d) (λ i. score_right (score_at d i)) = rw (← r, ← c) s in
        let t : 9 + 2 * (sheet_rows d * sheet_columns d) ≡ length d = rw (← r, ← c) l in
        either_way _ v
        (λ x. (m.0, (m.1.0, (m.1.1.0, (omega arith, (omega arith, (t, (sym a ∙ x, tt))))))))
        (λ x h. not_both h.1.1.1.1.1.1.0 (sym a ∙ x))

-- the first nine bytes

four_low : (v : ℕ) → big_of 4 (v % 4294967296) ≡ big_of 4 v
unfolding big_of
four_low v =
    let a : v % 4294967296 / 256 / 256 / 256 % 256 ≡ v / 256 / 256 / 256 % 256 = omega arith in
    let b : v % 4294967296 / 256 / 256 % 256 ≡ v / 256 / 256 % 256 = omega arith in
    let c : v % 4294967296 / 256 % 256 ≡ v / 256 % 256 = omega arith in
    let e : v % 4294967296 % 256 ≡ v % 256 = omega arith in
    rw (a, b, c, e)

pub head_long : (m n : ℕ) → length (sheet_head m n) ≡ 9
unfolding sheet_head big_of
head_long m n = refl

pub head_out : (d : List ℕ) (m n : ℕ) → length d < 9 → d ≡ put d 0 (sheet_head m n)
head_out d m n h = put_out d 0 (sheet_head m n) (head_long m n) (omega arith)

pub head_put :
    (d a b c l : List ℕ) (m n : ℕ) → a ≡ put d 0 (big_of 4 ((5 + 2 * (m * n)) % 4294967296)) → b ≡ put a 4 (1 ∷ []) → c ≡ put b 5 (big_of 2 m) →
    l ≡ put c 7 (big_of 2 n) → 9 ≤ length d → l ≡ put d 0 (sheet_head m n)
unfolding sheet_head
head_put d a b c l m n p q r s h =
    let w1 = first (p ∙ ap (put d 0) (four_low (5 + 2 * (m * n)))) (big_length 4 (5 + 2 * (m * n))) in
    let w2 = then w1 (1 ∷ []) 1 4 q refl refl (omega arith) in
    let w3 = then w2 (big_of 2 m) 2 5 r (big_length 2 m) refl (omega arith) in
    (then w3 (big_of 2 n) 2 7 s (big_length 2 n) refl (omega arith)).is
