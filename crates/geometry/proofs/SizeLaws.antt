-- U up to a bound, judgements and sums. Assumes nothing.
use Prim.Native.Nat.{ℕ, min, zero, suc, ◌+◌, ◌*◌, ◌%◌, ◌≤◌, ◌<◌}
use mathlib.Core.Path.{◌≡◌, sym, ap, ◌∙◌}
use mathlib.Core.List.{List}
use mathlib.Core.Logic.{by_cases}
use native.Mathlib.Decide.{dec_le}
use native.Mathlib.Omega.{arith}
use native.Mathlib.Nat.{mul-le-mul, mul-le-mul_left}
use lib.Dec.{eqb}
use borrow.Author.Tests.{eq-eqb, ne_eqb, le-leb, lt-leb}
use mathlib.Core.Bool.{Bool, true, false}
use Rattle.wire.specs.Pick.{pick}
use Rattle.wire.specs.Tests.{sum_below}
use Rattle.wire.proofs.TestLaws.{sum_none, sum_more}
use Rattle.header.specs.declared.Element.{Element}
use Rattle.header.specs.Fields.{tile_rows, tile_columns}
use Rattle.header.specs.Element.{cell_size, element, entries_read}
use Rattle.geometry.specs.declared.Packing.{Packing}
use Rattle.geometry.specs.declared.Packing.TheVariants.{Uncompressed, Compressed, Fault}
use Rattle.geometry.specs.Sizes.{uncompressed, packing_of, stored_size, least_length, tile_length, element_bytes, element_packing, tile_bytes, plain_tile_length, cap}

-- a cell has 2 or 4 bytes
pub size_range : (k : ℕ) → (2 ≤ cell_size k) × (cell_size k ≤ 4)
unfolding cell_size
size_range k = go (eqb k 3)
  where
    go : (b : Bool) → (2 ≤ pick b 2 4) × (pick b 2 4 ≤ 4)
    go true = (omega arith, omega arith)
    go false = (omega arith, omega arith)

module _ (h w k c z : ℕ) (p : c ≡ h * w) (q : z ≡ cell_size k) where
  pub capped_cells : cap < c → cap ≡ min (uncompressed h w k) cap
  unfolding uncompressed
  capped_cells l =
      let r = size_range k in
      let m : c * 1 ≤ c * z = mul-le-mul_left c (omega arith) in
      let u : cap ≤ h * w * cell_size k = rw (← p, ← q) (omega arith) in
      omega arith

  pub capped_in : c * z ≤ cap → c * z ≡ min (uncompressed h w k) cap
  unfolding uncompressed
  capped_in l =
      let u : h * w * cell_size k ≤ cap = rw (← p, ← q) l in
      rw (p, q) (omega arith)

  pub capped_past : cap < c * z → cap ≡ min (uncompressed h w k) cap
  unfolding uncompressed
  capped_past l =
      let u : cap ≤ h * w * cell_size k = rw (← p, ← q) (omega arith) in
      omega arith

  pub cells_fit : c ≤ cap → c * z ≤ 4294967296 * 4
  cells_fit l = let r = size_range k in let y : z ≤ 4 = omega arith in mul-le-mul l y

-- judgements, by the tests in their order

pub packing_zero : (l u : ℕ) → l ≡ 0 → Fault ≡ packing_of l u
unfolding packing_of
packing_zero l u e = rw e

pub packing_whole : (l u : ℕ) → (l ≡ 0 → ⊥) → l ≡ u → Uncompressed ≡ packing_of l u
unfolding packing_of
packing_whole l u n e = rw (ne_eqb l 0 n, eq-eqb l u e)

pub packing_less : (l u : ℕ) → (l ≡ 0 → ⊥) → (l ≡ u → ⊥) → l ≤ u → Compressed ≡ packing_of l u
unfolding packing_of
packing_less l u n m h = rw (ne_eqb l 0 n, ne_eqb l u m, le-leb l u h)

pub packing_more : (l u : ℕ) → (l ≡ 0 → ⊥) → (l ≡ u → ⊥) → u < l → Fault ≡ packing_of l u
unfolding packing_of
packing_more l u n m h = rw (ne_eqb l 0 n, ne_eqb l u m, lt-leb l u h)

-- a four-byte length can't tell U from the lesser of U and the bound
pub packing_capped : (l u : ℕ) → l < cap → packing_of l (min u cap) ≡ packing_of l u
packing_capped l u h =
    by_cases (dec_le u cap) (λ k. let e : min u cap ≡ u = omega arith in rw e)
    (λ n.
    let e : min u cap ≡ cap = omega arith in
    rw e
    (by_cases (dec_le 1 l)
    (λ p. sym (packing_less l cap (λ e. omega arith) (λ e. omega arith) (omega arith)) ∙ packing_less l u (λ e. omega arith) (λ e. omega arith) (omega arith))
    (λ m. let z : l ≡ 0 = omega arith in sym (packing_zero l cap z) ∙ packing_zero l u z)))

pub kind_packing_is :
    (s : List ℕ) (k h w l u : ℕ) (r : Packing) → h ≡ tile_rows s → w ≡ tile_columns s → u ≡ min (uncompressed h w k) cap → r ≡ packing_of l u → l < cap →
    r ≡ packing_of l (uncompressed (tile_rows s) (tile_columns s) k)
kind_packing_is s k h w l u r a b p q m = q ∙ ap (packing_of l) p ∙ packing_capped l (uncompressed h w k) m ∙ rw (a, b)

-- by its type code, of a file's element
pub element_packing_is :
    (s : List ℕ) (e k l : ℕ) (r : Packing) → k ≡ (element s e).kind → r ≡ packing_of l (uncompressed (tile_rows s) (tile_columns s) k) → r ≡ element_packing s e l
unfolding element_packing element_bytes
element_packing_is s e k l r p q = q ∙ rw p

pub element_is :
    (s : List ℕ) (e h w u : ℕ) (x : Element) → x ≡ element s e → h ≡ tile_rows s → w ≡ tile_columns s →
    u ≡ min (uncompressed h w x.kind) cap → u ≡ min (element_bytes s e) cap
unfolding element_bytes
element_is s e h w u x p q r t = t ∙ rw (p, q, r)

-- the lesser of a sum and the bound, a part at a time

pub sum_begin : (f : ℕ → ℕ) → 0 ≡ min (sum_below 0 f) cap
sum_begin f = rw (sum_none f) (omega arith)

pub sum_step : (n a b r : ℕ) (f : ℕ → ℕ) → a ≡ min (sum_below n f) cap → b ≡ min (f n) cap → r ≡ min (a + b) cap → r ≡ min (sum_below (n + 1) f) cap
sum_step n a b r f p q e = rw (sum_more n f) (omega arith)

pub tile_bytes_is :
    (s : List ℕ) (e n r : ℕ) → n ≡ entries_read s → e ≤ n → n ≤ e → r ≡ min (sum_below e (element_bytes s)) cap →
    r ≡ min (tile_bytes s) cap
unfolding tile_bytes
tile_bytes_is s e n r p h k q = let m : e ≡ entries_read s = omega arith in q ∙ rw m

pub under : (a k x : ℕ) → x ≡ min a k → x ≤ k
under a k x e = omega arith

-- the length of a plain tile record is a multiple of 8, and not far above the tile's bytes

pub plain_eights : (s : List ℕ) → plain_tile_length s % 8 ≡ 0
unfolding plain_tile_length tile_length least_length
plain_eights s = omega arith

pub sum_stored : (n : ℕ) (f : ℕ → ℕ) → sum_below n (λ e. stored_size (f e)) ≤ sum_below n f + 7 * n
unfolding sum_below stored_size
sum_stored zero f = omega arith
sum_stored (suc n) f = omega (arith, sum_stored n f)

pub plain_most : (s : List ℕ) → plain_tile_length s ≤ tile_bytes s + 7 * entries_read s + 23
unfolding plain_tile_length tile_length least_length tile_bytes
plain_most s = omega (arith, sum_stored (entries_read s) (element_bytes s))
