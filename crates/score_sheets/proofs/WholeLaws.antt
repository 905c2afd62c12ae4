-- A sheet that is written says its rows, its columns and its scores, and is right; one that is right is the sheet of what it says.
-- Assumes nothing.
use Prim.Native.Nat.{ℕ, zero, suc, ◌+◌, ◌*◌, ◌/◌, ◌%◌, ◌^◌, ◌≤◌, ◌<◌}
use mathlib.Core.Path.{◌≡◌, refl, sym, ap, ap₂, ◌∙◌}
use mathlib.Core.List.{List, [], ◌∷◌, ◌++◌, map, map-append, flat_map, append_assoc}
use mathlib.Core.Bool.{Bool, true, false}
use native.Mathlib.Omega.{arith}
use lib.ListN.{length, length-append}
use lib.Dec.{leb, eqb}
use borrow.Author.Tests.{leb-true, eqb-true}
use Rattle.wire.specs.Bytes.{Bytes, byte_at, part}
use Rattle.wire.specs.Big.{big_from, big_at, big_of}
use Rattle.wire.specs.Lists.{below}
use Rattle.wire.specs.Tests.{all_below}
use Rattle.wire.proofs.TestLaws.{means, yes, not_both, below_all}
use Rattle.wire.proofs.ByteLaws.{part_split, part_whole, part_in}
use Rattle.wire.proofs.BigLaws.{big_before, big_behind, big_of_lem, big_length, big_byte, big_one, big_small, big_part}
use Rattle.wire.proofs.RunLaws.{run_length, run_part, run_append, run_one, below_cut}
use Rattle.blocks.specs.Tables.{tabled}
use Rattle.blocks.proofs.TableLaws.{tabled_long, tabled_at, place_row, place_less}
use Rattle.score_sheets.specs.Sheet.{sheet_rows, sheet_columns, score_at, score_right, sheet_right, sheet_head, sheet_bytes, Fits, Says, Written, Read}
use Rattle.score_sheets.proofs.SheetLaws.{head_long}

-- a score has 16 bits
pub score_bits : (v : ℕ) → score_right v ≡ true → v < 65536
unfolding score_right
score_bits v e = go (leb v 1000) refl (eqb v 65535) refl
  where
    go : (a : Bool) → leb v 1000 ≡ a → (b : Bool) → eqb v 65535 ≡ b → v < 65536
    go true p b q = omega (arith, leb-true v 1000 p)
    go false p true q = omega (arith, eqb-true v 65535 q)
    go false p false q = not_both e (rw (p, q))

-- a number that stands behind others, and before others
big_within : (w v : ℕ) (a b : List ℕ) {at : ℕ} → length a ≡ at → v < 256 ^ w → big_at w (a ++ big_of w v ++ b) at ≡ v
big_within w v a b {at} e h =
    let l = big_length w v in
    let z : at ≡ length a + 0 = omega arith in
    big_before w (a ++ big_of w v) b at (omega (arith, length-append a (big_of w v)))
    ∙ ap (big_at w (a ++ big_of w v)) z ∙ big_behind w a (big_of w v) 0 ∙ big_of_lem w v h

module _ (m n : ℕ) (g : ℕ → ℕ → ℕ) (fits : Fits m n) (right : (r c : ℕ) → r < m → c < n → score_right (g r c) ≡ true) where
  abbrev d : List ℕ
  d = sheet_bytes m n g

  abbrev tail : List ℕ
  tail = flat_map (big_of 2) (tabled m n g)

  abbrev stated : ℕ
  stated = 5 + 2 * (m * n)

  tail_long : length tail ≡ m * n * 2
  tail_long = run_length (big_of 2) 2 (big_length 2) (tabled m n g) ∙ ap (λ (k : ℕ). k * 2) (tabled_long m n g)

  whole_long : length d ≡ 9 + 2 * (m * n)
  unfolding sheet_bytes
  whole_long = length-append (sheet_head m n) tail ∙ omega (arith, head_long m n, tail_long)

  -- the first nine bytes

  length_there : big_at 4 d 0 ≡ stated
  unfolding sheet_bytes sheet_head
  length_there =
      let b = (1 ∷ []) ++ (big_of 2 m ++ (big_of 2 n ++ tail)) in
      ap (λ (l : List ℕ). big_at 4 l 0) (regroup (big_of 4 stated) (1 ∷ []) (big_of 2 m) (big_of 2 n) tail) ∙ big_within 4 stated [] b refl (omega (arith, fits.long))
    where
      regroup : (a b c e f : List ℕ) → a ++ b ++ c ++ e ++ f ≡ a ++ (b ++ (c ++ (e ++ f)))
      regroup a b c e f = simp append_assoc

  version_there : byte_at d 4 ≡ 1
  unfolding sheet_bytes sheet_head byte_at big_of
  version_there = refl

  rows_there : sheet_rows d ≡ m
  unfolding sheet_rows sheet_bytes sheet_head
  rows_there =
      ap (λ (l : List ℕ). big_at 2 l 5) (append_assoc (big_of 4 stated ++ (1 ∷ []) ++ big_of 2 m) (big_of 2 n) tail)
      ∙ big_within 2 m (big_of 4 stated ++ (1 ∷ [])) (big_of 2 n ++ tail) (length-append (big_of 4 stated) (1 ∷ []) ∙ omega (arith, big_length 4 stated)) (omega (arith, fits.rows.1))

  columns_there : sheet_columns d ≡ n
  unfolding sheet_columns sheet_bytes sheet_head
  columns_there =
      big_within 2 n (big_of 4 stated ++ (1 ∷ []) ++ big_of 2 m) tail
      (length-append (big_of 4 stated ++ (1 ∷ [])) (big_of 2 m) ∙ omega (arith, length-append (big_of 4 stated) (1 ∷ []), big_length 4 stated, big_length 2 m))
      (omega (arith, fits.columns.1))

  -- the scores

  score_there : (r c : ℕ) → r < m → c < n → score_at d (r * n + c) ≡ g r c
  unfolding score_at sheet_bytes big_at
  score_there r c h k =
      let i = r * n + c in
      let t = tabled_at m n g r c h k in
      let b : i < m * n = place_less m n r c h k in
      let e : 9 + 2 * i ≡ length (sheet_head m n) + (i * 2 + 0) = omega (arith, head_long m n) in
      ap (big_at 2 d) e ∙ big_behind 2 (sheet_head m n) tail (i * 2 + 0)
      ∙ ap (big_from 0) (run_part (big_of 2) 2 (big_length 2) (tabled m n g) i 2 0 (omega (arith, tabled_long m n g)) (omega arith))
      ∙ rw t (big_of_lem 2 (g r c) (score_bits (g r c) (right r c h k)))

  each_right : (i : ℕ) → i < m * n → score_right (score_at d i) ≡ true
  each_right i h =
      let p = place_row m n i h in
      let e = score_there (i / n) (i % n) p.0 p.1 in
      ap score_right (rw p.2 at e) ∙ right (i / n) (i % n) p.0 p.1

  is_right : sheet_right d ≡ true
  unfolding sheet_right
  is_right =
      let a = rows_there in
      let b = columns_there in
      let l = whole_long in
      sym
      (yes _ (
        omega arith,
        (
          omega (arith, length_there),
          (
            version_there,
            (
              omega (arith, fits.rows.0),
              (
                omega (arith, fits.columns.0),
                (ap₂ (λ (x y : ℕ). 9 + 2 * (x * y)) a b ∙ sym l, (ap₂ (λ (x y : ℕ). all_below (x * y) (λ i. score_right (score_at d i))) a b ∙ below_all (m * n) _ each_right, tt)),
              ),
            ),
          ),
        ),
      ))

  pub says : Says d m n g
  says = record { rows = rows_there; columns = columns_there; score = score_there; right = is_right }

pub written : Written
written = says

-- what is right is the sheet of what it says

-- a table of a list's numbers by rows is the list
table_list : (h : ℕ → ℕ) (m n : ℕ) → tabled m n (λ r c. h (r * n + c)) ≡ map h (below (m * n))
unfolding tabled below
table_list h zero n = let e : 0 * n ≡ 0 = omega arith in rw e
table_list h (suc m) n =
    let e : m * n + n ≡ suc m * n = omega arith in
    ap (λ (l : List ℕ). l ++ map (λ c. h (m * n + c)) (below n)) (table_list h m n) ∙ sym (below_cut h (m * n) n) ∙ ap (λ (k : ℕ). map h (below k)) e

module _ (d : List ℕ) (b : Bytes d) where
  numbers_part : (at k : ℕ) → at + 2 * k ≤ length d → flat_map (big_of 2) (map (λ i. big_at 2 d (at + 2 * i)) (below k)) ≡ part d at (2 * k)
  unfolding flat_map below
  numbers_part at zero h = sym (part_in d at 0 (omega arith))
  numbers_part at (suc k) h =
      let f : ℕ → ℕ = λ i. big_at 2 d (at + 2 * i) in
      let e : 2 * k + 2 ≡ 2 * suc k = omega arith in
      ap (flat_map (big_of 2)) (map-append f (below k) (k ∷ [])) ∙ run_append (big_of 2) (map f (below k)) (f k ∷ [])
      ∙ ap₂ (λ (x y : List ℕ). x ++ y) (numbers_part at k (omega arith)) (run_one (big_of 2) (f k) ∙ big_part 2 d (at + 2 * k) b (omega arith))
      ∙ sym (part_split d at (2 * k) 2 (omega arith)) ∙ ap (part d at) e

  module _ (right : sheet_right d ≡ true) where
    abbrev rows : ℕ
    rows = sheet_rows d

    abbrev columns : ℕ
    columns = sheet_columns d

    long : 9 + 2 * (rows * columns) ≡ length d
    unfolding sheet_right
    long = (means _ right).1.1.1.1.1.0

    head_same : sheet_head rows columns ≡ part d 0 9
    unfolding sheet_head sheet_right sheet_rows sheet_columns
    head_same =
        let a = means _ right in
        let l = long in
        let s : 5 + 2 * (big_at 2 d 5 * big_at 2 d 7) ≡ big_at 4 d 0 = omega (arith, a.1.0) in
        let v : 1 ∷ [] ≡ part d 4 1 = big_one (big_at 1 d 4) 1 (omega (arith, a.1.1.0, big_byte d 4 (byte_at d 4) refl)) ∙ big_part 1 d 4 b (omega arith) in
        rw (s, big_part 4 d 0 b (omega arith), v, big_part 2 d 5 b (omega arith), big_part 2 d 7 b (omega arith))
        (ap (λ (x : List ℕ). x ++ part d 5 2 ++ part d 7 2) (sym (part_split d 0 4 1 (omega arith)))
        ∙ ap (λ (x : List ℕ). x ++ part d 7 2) (sym (part_split d 0 5 2 (omega arith))) ∙ sym (part_split d 0 7 2 (omega arith)))

    pub sheet_fits : Fits rows columns
    unfolding sheet_right sheet_rows sheet_columns
    sheet_fits =
        let a = means _ right in
        let s : 5 + 2 * (big_at 2 d 5 * big_at 2 d 7) ≡ big_at 4 d 0 = omega (arith, a.1.0, long) in
        record {
          rows = (a.1.1.1.0, omega (arith, big_small 2 d 5 b));
          columns = (a.1.1.1.1.0, omega (arith, big_small 2 d 7 b));
          long = omega (arith, big_small 4 d 0 b);
        }

    pub sheet_same : sheet_bytes rows columns (λ r c. score_at d (r * columns + c)) ≡ d
    unfolding sheet_bytes score_at
    sheet_same =
        let l = long in
        ap₂ (λ (x y : List ℕ). x ++ y) head_same
        (ap (flat_map (big_of 2)) (table_list (score_at d) rows columns) ∙ numbers_part 9 (rows * columns) (omega arith))
        ∙ sym (part_split d 0 9 (2 * (rows * columns)) (omega arith)) ∙ ap (part d 0) l ∙ part_whole d

pub read : Read
read d b right = (sheet_fits d b right, sheet_same d b right)
