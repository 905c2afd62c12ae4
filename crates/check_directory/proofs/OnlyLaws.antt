-- Tile records and references correspond where each record is listed and there are as many of either. Assumes nothing.
use Prim.Native.Nat.{ℕ, zero, suc, ◌+◌, ◌*◌, ◌/◌, ◌%◌, ◌-◌, ◌≤◌, ◌<◌}
use mathlib.Core.Path.{◌≡◌, refl, sym, ap, ◌∙◌}
use mathlib.Core.List.{List, [], ◌∷◌}
use mathlib.Core.Bool.{Bool, true, false, ◌||◌}
use native.Mathlib.Omega.{arith}
use native.Mathlib.Nat.{div-add-mod', mod-lt, div-lt_iff_lt-mul}
use lib.ListN.{length}
use lib.Dec.{eqb}
use borrow.Author.Tests.{eqb-true, eqb-false, eq-eqb, ne_eqb}
use Rattle.wire.specs.Tests.{◌≡?◌, passes}
use Rattle.wire.proofs.TestLaws.{means, yes, not_both, iff, below_each, below_all}
use Rattle.record.specs.Record.{content_at}
use Rattle.record.specs.Chain.{records_of}
use Rattle.record.proofs.FindLaws.{records_behind}
use Rattle.wire.proofs.ListLaws.{some_gives, every_some, every_more}
use Rattle.geometry.specs.Tiles.{tiles_across, tiles_down, tile_count, tiles_in}
use Rattle.geometry.proofs.GridLaws.{grid_less, row_of, column_of, same_index}
use Rattle.bodies.specs.TileRecord.{tile_index}
use Rattle.wire.specs.Lists.{some, count_below}
use Rattle.check_directory.specs.TileRules.{span_right, rectangle_right, gives, tiles_listed, gives_tile, tiles_only}
use Rattle.bodies.specs.TileDirectory.{tile_directory_at, first_row, first_column, listed_rows, listed_columns, reference_count, reference_at, in_span, in_rectangle, number_of, reference_of, reference_from, tile_reference}
use Rattle.wire.proofs.CountLaws.{count_one, count_both, count_same, count_named}

-- a tile in the rectangle

record Inside (s : List ℕ) (at row column : ℕ) : Type 0 where
  below : first_row s at ≤ row
  rows : row < first_row s at + listed_rows s at
  right : first_column s at ≤ column
  columns : column < first_column s at + listed_columns s at

inside_means : (s : List ℕ) (at row column : ℕ) → in_rectangle s at row column ≡ true → Inside s at row column
unfolding in_rectangle in_span
inside_means s at row column e =
    let h = means _ e in
    let a = means _ h.0 in
    let b = means _ h.1.0 in
    record { below = a.0; rows = omega (arith, a.1.0); right = b.0; columns = omega (arith, b.1.0) }

means_inside : (s : List ℕ) (at row column : ℕ) → Inside s at row column → in_rectangle s at row column ≡ true
unfolding in_rectangle in_span
means_inside s at row column i =
    sym (yes _ (sym (yes _ (i.below, (omega (arith, i.rows), tt))), (sym (yes _ (i.right, (omega (arith, i.columns), tt))), tt)))

reference_inside : (s : List ℕ) (at row column : ℕ) → Inside s at row column → reference_of s at row column ≡ reference_at s at (number_of s at row column)
unfolding reference_of
reference_inside s at row column i = rw (means_inside s at row column i)

-- what is referred to lies inside
inside_if : (s : List ℕ) (at row column : ℕ) → (reference_of s at row column ≡ 0 → ⊥) → Inside s at row column
unfolding reference_of
inside_if s at row column h = go (in_rectangle s at row column) refl
  where
    go : (b : Bool) → in_rectangle s at row column ≡ b → Inside s at row column
    go true e = inside_means s at row column e
    go false e = absurd (h (rw e))

number_less : (s : List ℕ) (at row column : ℕ) → Inside s at row column → number_of s at row column < listed_rows s at * listed_columns s at
unfolding number_of
number_less s at row column i =
    grid_less (listed_columns s at) (row - first_row s at) (column - first_column s at) (omega (arith, i.columns, i.right)) (listed_rows s at) (omega (arith, i.rows, i.below))

-- a number fixes the tile
number_one : (s : List ℕ) (at a b c d : ℕ) → Inside s at a b → Inside s at c d → number_of s at a b ≡ number_of s at c d → (a ≡ c) × (b ≡ d)
unfolding number_of
number_one s at a b c d i j e =
    let w = listed_columns s at in
    let k : b - first_column s at < w = omega (arith, i.columns, i.right) in
    let l : d - first_column s at < w = omega (arith, j.columns, j.right) in
    let m : a - first_row s at ≡ c - first_row s at = sym (row_of w _ _ k) ∙ ap (λ (x : ℕ). x / w) e ∙ row_of w _ _ l in
    let n : b - first_column s at ≡ d - first_column s at = sym (column_of w _ _ k) ∙ ap (λ (x : ℕ). x % w) e ∙ column_of w _ _ l in
    (omega (arith, i.below, j.below), omega (arith, i.right, j.right))

-- an index that the directory gives a reference for is below the tile count
pub referenced_below : (s : List ℕ) → rectangle_right s ≡ true → (i : ℕ) → (tile_reference s i ≡ 0 → ⊥) → i < tile_count s
unfolding rectangle_right span_right reference_from tile_count tiles_in tiles_across tiles_down
referenced_below s right i z =
    let p = inside_if s (tile_directory_at s) (i / tiles_across s) (i % tiles_across s) z in
    let a = means _ (means _ right).0 in
    let b = means _ (means _ right).1.0 in
    let r : i / tiles_across s < tiles_down s = omega (arith, p.rows, a.1.1.0) in
    let c : i % tiles_across s < tiles_across s = omega (arith, p.columns, b.1.1.0) in
    let g = grid_less (tiles_across s) (i / tiles_across s) (i % tiles_across s) c (tiles_down s) r in
    let e = div-add-mod' i (tiles_across s) in
    omega arith

-- where the rectangle is the whole grid of tiles, each tile's number is its index
pub grid_reference :
    (s : List ℕ) → first_row s (tile_directory_at s) ≡ 0 → first_column s (tile_directory_at s) ≡ 0 → listed_rows s (tile_directory_at s) ≡ tiles_down s →
    listed_columns s (tile_directory_at s) ≡ tiles_across s → (i : ℕ) → i < tile_count s → tile_reference s i ≡ reference_at s (tile_directory_at s) i
unfolding reference_from tile_count tiles_in tiles_across tiles_down number_of
grid_reference s p q d a i h =
    let w = tiles_across s in
    let pos : 0 < w = go (tiles_across s) refl in
    let r : i / w < tiles_down s = (div-lt_iff_lt-mul pos).1 h in
    let c : i % w < w = mod-lt i pos in
    let m : i / w - first_row s (tile_directory_at s) ≡ i / w = omega arith in
    let n : i % w - first_column s (tile_directory_at s) ≡ i % w = omega arith in
    let e : (i / w - first_row s (tile_directory_at s)) * listed_columns s (tile_directory_at s) + (i % w - first_column s (tile_directory_at s)) ≡ i = rw (m, n, a) (div-add-mod' i w) in
    reference_inside s (tile_directory_at s) (i / w) (i % w) (record { below = omega arith; rows = omega arith; right = omega arith; columns = omega arith })
    ∙ ap (reference_at s (tile_directory_at s)) e
  where
    go : (n : ℕ) → tiles_across s ≡ n → 0 < tiles_across s
    go zero e = let z : tiles_down s * tiles_across s ≡ tiles_down s * 0 = ap (λ (x : ℕ). tiles_down s * x) e in absurd (omega arith)
    go (suc n) e = omega arith

-- the index of reference k, and that its tile has number k

module _ (s : List ℕ) (right : rectangle_right s ≡ true) (k : ℕ) (h : k < reference_count s) where
  abbrev d : ℕ
  d = tile_directory_at s

  wide : 0 < listed_columns s d
  wide = go (listed_columns s d) refl
    where
      go : (c : ℕ) → listed_columns s d ≡ c → 0 < listed_columns s d
      go zero e = let z : reference_count s ≡ listed_rows s d * 0 = ap (λ (x : ℕ). listed_rows s d * x) e in absurd (omega arith)
      go (suc c) e = omega arith

  abbrev index_row : ℕ
  index_row = first_row s d + k / listed_columns s d

  abbrev index_column : ℕ
  index_column = first_column s d + k % listed_columns s d

  inside : Inside s d index_row index_column
  inside =
      let a : k / listed_columns s d < listed_rows s d = (div-lt_iff_lt-mul wide).1 h in
      let b : k % listed_columns s d < listed_columns s d = mod-lt k wide in
      record { below = omega arith; rows = omega arith; right = omega arith; columns = omega arith }

  number_back : number_of s d index_row index_column ≡ k
  unfolding number_of
  number_back =
      let a : first_row s d + k / listed_columns s d - first_row s d ≡ k / listed_columns s d = omega arith in
      let b : first_column s d + k % listed_columns s d - first_column s d ≡ k % listed_columns s d = omega arith in
      rw (a, b) (div-add-mod' k (listed_columns s d))

  across : index_column < tiles_across s
  unfolding rectangle_right span_right
  across = let y = means _ (means _ right).1.0 in omega (arith, inside.columns, y.1.1.0)

  down : index_row < tiles_down s
  unfolding rectangle_right span_right
  down = let y = means _ (means _ right).0 in omega (arith, inside.rows, y.1.1.0)

  abbrev index : ℕ
  index = index_row * tiles_across s + index_column

  index_less : index < tile_count s
  unfolding tile_count tiles_in tiles_across tiles_down
  index_less = grid_less (tiles_across s) index_row index_column across (tiles_down s) down

  index_row_lem : index / tiles_across s ≡ index_row
  index_row_lem = row_of (tiles_across s) index_row index_column across

  index_column_lem : index % tiles_across s ≡ index_column
  index_column_lem = column_of (tiles_across s) index_row index_column across

  index_reference : tile_reference s index ≡ reference_at s d k
  unfolding reference_from
  index_reference = rw (index_row_lem, index_column_lem) (reference_inside s d index_row index_column inside ∙ ap (reference_at s d) number_back)

-- records and references

module _ (s : List ℕ) (right : rectangle_right s ≡ true) (listed : tiles_listed s ≡ true) where
  abbrev own : ℕ
  own = tile_directory_at s

  abbrev total : ℕ
  total = reference_count s

  abbrev own_number : ℕ → ℕ
  own_number x = number_of s own (tile_index s x / tiles_across s) (tile_index s x % tiles_across s)

  abbrev names : ℕ → ℕ → Bool
  names x k = passes ((own_number x ≡? k) ∷ (reference_at s own k ≡? content_at x) ∷ [])

  abbrev covered : ℕ → Bool
  covered k = some (λ x. names x k) (records_of s 2)

  abbrev is_listed : ℕ → Bool
  is_listed x = eqb (tile_reference s (tile_index s x)) (content_at x)

  own_inside : (x : ℕ) → is_listed x ≡ true → Inside s own (tile_index s x / tiles_across s) (tile_index s x % tiles_across s)
  unfolding reference_from
  own_inside x e = inside_if s own _ _ (λ z. let y : tile_reference s (tile_index s x) ≡ content_at x = eqb-true _ _ e in absurd (omega arith))

  own_reference : (x : ℕ) → is_listed x ≡ true → reference_at s own (own_number x) ≡ content_at x
  unfolding reference_from
  own_reference x e = sym (reference_inside s own _ _ (own_inside x e)) ∙ eqb-true _ _ e

  named_once : (x : ℕ) → is_listed x ≡ true → eqb (count_below total (names x)) 1 ≡ true
  named_once x e =
      eq-eqb _ _
      (count_one total (names x) (own_number x) (number_less s own _ _ (own_inside x e)) (sym (yes _ (refl, (own_reference x e, tt))))
      (λ k f. sym (means _ f).0))

  one_name : (x y k : ℕ) → names x k ≡ true → names y k ≡ true → x ≡ y
  one_name x y k e f = omega (arith, (means _ e).1.0, (means _ f).1.0)

  covered_count : count_below total covered ≡ length (records_of s 2)
  unfolding tiles_listed
  covered_count = count_named total names one_name 0 (records_of s 2) (records_behind s 2) (every_more is_listed _ (records_of s 2) named_once listed)

  covered_gives : (k : ℕ) → covered k ≡ true → gives s k ≡ true
  unfolding gives
  covered_gives k e =
      some_gives _ _ (records_of s 2) e (λ x f. let y = (means _ f).1.0 in rw (ne_eqb (reference_at s own k) 0 (λ z. absurd (omega arith))))

  gives_not : (k : ℕ) → gives s k ≡ true → reference_at s own k ≡ 0 → ⊥
  unfolding gives
  gives_not k e z = not_both e (rw z)

  -- where nothing else is listed, there are as many
  only_count : tiles_only s ≡ true → count_below total (gives s) ≡ length (records_of s 2)
  unfolding tiles_only gives_tile tiles_listed
  only_count only = count_same total (gives s) covered (λ k h. iff _ _ (there k h) (covered_gives k)) ∙ covered_count
    where
      there : (k : ℕ) → k < total → gives s k ≡ true → covered k ≡ true
      there k h g =
          let e = index_reference s right k h in
          let t = below_each (tile_count s) _ only (index s right k h) (index_less s right k h) in
          let n = ne_eqb (tile_reference s (index s right k h)) 0 (λ z. gives_not k g (sym e ∙ z)) in
          every_some (λ x. true) _ _ (records_of s 2)
          (λ x a b.
          let y = means _ b in
          let m : own_number x ≡ k = rw (y.1.0, index_row_lem s right k h, index_column_lem s right k h) (number_back s right k h) in
          sym (yes _ (m, (sym e ∙ sym y.0, tt))))
          (every_more is_listed (λ x. true) (records_of s 2) (λ x a. refl) listed)
          (rw n at t)

  gives_if : (k : ℕ) → (reference_at s own k ≡ 0 → ⊥) → gives s k ≡ true
  unfolding gives
  gives_if k h = rw (ne_eqb (reference_at s own k) 0 h)

  -- and where there are as many, nothing else is

  given_tile : count_below total (gives s) ≡ length (records_of s 2) → (i : ℕ) → (tile_reference s i ≡ 0 → ⊥) → gives_tile s i ≡ true
  unfolding gives_tile reference_from tiles_listed
  given_tile e i z =
      let p = inside_if s own (i / tiles_across s) (i % tiles_across s) z in
      let k = number_of s own (i / tiles_across s) (i % tiles_across s) in
      let f = reference_inside s own (i / tiles_across s) (i % tiles_across s) p in
      let c = count_both (gives s) covered covered_gives total (e ∙ sym covered_count) k (number_less s own _ _ p) (gives_if k (λ y. z (f ∙ y))) in
      every_some is_listed _ _ (records_of s 2)
      (λ x a b.
      let y = means _ b in
      let o = number_one s own _ _ _ _ (own_inside x a) p y.0 in
      sym (yes _ (sym y.1.0 ∙ sym f, (same_index (tiles_across s) (tile_index s x) i o.0 o.1, tt))))
      listed c

  count_only : count_below total (gives s) ≡ length (records_of s 2) → tiles_only s ≡ true
  unfolding tiles_only
  count_only e = below_all (tile_count s) _ (λ i h. go i (eqb (tile_reference s i) 0) refl)
    where
      go : (i : ℕ) (b : Bool) → eqb (tile_reference s i) 0 ≡ b → (eqb (tile_reference s i) 0 || gives_tile s i) ≡ true
      go i true f = rw f
      go i false f = rw f (given_tile e i (eqb-false _ _ f))

  pub only_is : eqb (count_below total (gives s)) (length (records_of s 2)) ≡ tiles_only s
  only_is = iff _ _ (λ e. count_only (eqb-true _ _ e)) (λ e. eq-eqb _ _ (only_count e))
