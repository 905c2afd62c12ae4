-- What the tile directory gives for a tile, from its fields. Assumes nothing.
use Prim.Native.Nat.{ℕ, ◌+◌, ◌-◌, ◌≤◌, ◌<◌, ◌*◌, ◌/◌, ◌%◌}
use mathlib.Core.Path.{◌≡◌, sym, ap, ◌∙◌}
use mathlib.Core.List.{List}
use mathlib.Core.Bool.{Bool, true, false}
use native.Mathlib.Omega.{arith}
use lib.ListN.{length}
use borrow.Author.Tests.{ne_eqb}
use Rattle.wire.specs.Bytes.{number_at}
use Rattle.wire.proofs.ByteLaws.{number_out}
use Rattle.geometry.specs.Tiles.{tiles_across}
use Rattle.bodies.specs.TileDirectory.{standard_references, reference_at, reference_of, number_of, reference_from, tile_directory_at, in_rectangle, first_row, in_span, reference_size, first_column, listed_columns}

-- a reference, by its form; one that lies past every slice is 0

module _ (s : List ℕ) (at k f : ℕ) (p : f ≡ standard_references s at) where
  pub standard_is : (r : ℕ) → f ≡ 1 → r ≡ number_at 8 s (at + (32 + 8 * k)) → r ≡ reference_at s at k
  unfolding reference_at
  standard_is r h e =
      let m : at + (32 + 8 * k) ≡ at + 32 + 8 * k = omega arith in
      rw (← p, h) (e ∙ ap (number_at 8 s) m)

  pub compact_is : (r : ℕ) → (f ≡ 1 → ⊥) → r ≡ number_at 4 s (at + (32 + 4 * k)) → r * 8 ≡ reference_at s at k
  unfolding reference_at
  compact_is r h e =
      let m : at + (32 + 4 * k) ≡ at + 32 + 4 * k = omega arith in
      rw (← p, ne_eqb f 1 h) (ap (λ (n : ℕ). n * 8) (e ∙ ap (number_at 4 s) m))

  pub standard_past : f ≡ 1 → 1152921504606846976 ≤ k → length s < 9223372036854775808 → 0 ≡ reference_at s at k
  unfolding reference_at
  standard_past h l n = rw (← p, h) (number_out 8 s (at + 32 + 8 * k) (omega arith))

  pub compact_past : (f ≡ 1 → ⊥) → 2305843009213693952 ≤ k → length s < 9223372036854775808 → 0 ≡ reference_at s at k
  unfolding reference_at
  compact_past h l n =
      let z : 0 ≡ number_at 4 s (at + 32 + 4 * k) = number_out 4 s (at + 32 + 4 * k) (omega arith) in
      rw (← p, ne_eqb f 1 h) (omega arith)

-- inside the rectangle, and outside

pub reference_in_lem :
    (s : List ℕ) (at row column k r : ℕ) (a : Bool) → a ≡ in_rectangle s at row column → a ≡ true → k ≡ number_of s at row column →
    r ≡ reference_at s at k → r ≡ reference_of s at row column
unfolding reference_of
reference_in_lem s at row column k r a p e q z = rw (← p, e, ← q) z

pub reference_out : (s : List ℕ) (at row column : ℕ) (a : Bool) → a ≡ in_rectangle s at row column → a ≡ false → 0 ≡ reference_of s at row column
unfolding reference_of
reference_out s at row column a p e = rw (← p, e)

pub number_is :
    (s : List ℕ) (at row column f l c d r : ℕ) → f ≡ first_row s at → l ≡ first_column s at → c ≡ listed_columns s at → d ≡ row - f →
    r ≡ column - l → d * c + r ≡ number_of s at row column
unfolding number_of
number_is s at row column f l c d r p q t u v = rw (u, v, p, q, t)

pub reference_is :
    (s : List ℕ) (at i a r c x : ℕ) → a ≡ tiles_across s → r ≡ i / a → c ≡ i % a → x ≡ reference_of s at r c → x ≡ reference_from s at i
unfolding reference_from
reference_is s at i a r c x p q t e = e ∙ rw (q, t, p)

-- what a function's answer tells of its definition
pub told : {r b v : Bool} → r ≡ b → r ≡ v → b ≡ v
told p q = sym p ∙ q

pub in_span_told : (a b d e x : ℕ) (r v : Bool) → a ≡ d → b ≡ e → r ≡ in_span a b x → r ≡ v → in_span d e x ≡ v
in_span_told a b d e x r v p q u w = rw (← p, ← q) (sym u ∙ w)

-- counts

module _ (s : List ℕ) (at f : ℕ) (q : at ≡ tile_directory_at s) (p : f ≡ standard_references s at) where
  pub size_standard : f ≡ 1 → 8 ≡ reference_size s
  unfolding reference_size
  size_standard h = rw (← q, ← p, h)

  pub size_compact : (f ≡ 1 → ⊥) → 4 ≡ reference_size s
  unfolding reference_size
  size_compact h = rw (← q, ← p, ne_eqb f 1 h)
