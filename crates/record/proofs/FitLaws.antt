-- Entries that fit their record: those of the record at d, whose checksum starts at l, end at e. Assumes nothing.
use Prim.Native.Nat.{ℕ, ◌+◌, ◌*◌, ◌/◌, ◌≤◌, ◌<◌}
use mathlib.Core.Path.{◌≡◌, sym, ap, refl}
use mathlib.Core.List.{List, [], ◌∷◌}
use mathlib.Core.Bool.{Bool, true, false, not}
use native.Mathlib.Omega.{arith}
use Rattle.record.specs.Record.{record_limit, padded}
use Rattle.wire.specs.Tests.{◌≤?◌, passes}
use Rattle.wire.proofs.TestLaws.{yes, no, means, fails, not_both}
use native.Mathlib.Nat.{div-lt_iff_lt-mul, le-div_iff_mul-le}

by_not : (a b : ℕ) → (a ≤ b → ⊥) → b < a
by_not a b h = omega (arith, h)

-- n of a size z in a room r, by a division where z is not 0
module _ (r n z : ℕ) where
  pub within_none : z ≡ 0 → true ≡ passes ((n * z ≤? r) ∷ [])
  within_none e = let m : n * z ≡ n * 0 = ap (λ (x : ℕ). n * x) e in yes _ (omega arith, tt)

  pub within_not : (z ≡ 0 → ⊥) → r / z < n → false ≡ passes ((n * z ≤? r) ∷ [])
  within_not h k = let m : r < n * z = (div-lt_iff_lt-mul {k = z} (omega (arith, h))).0 k in no _ (λ y. omega (arith, y.0))

  pub within_yes : (z ≡ 0 → ⊥) → n ≤ r / z → true ≡ passes ((n * z ≤? r) ∷ [])
  within_yes h k = yes _ ((le-div_iff_mul-le {k = z} (omega (arith, h))).0 k, tt)

  pub within_told : (b : Bool) → b ≡ passes ((n * z ≤? r) ∷ []) → not b ≡ false → n * z ≤ r
  within_told true p e = (means _ (sym p)).0
  within_told false p e = not_both refl e

  pub over_told : (b : Bool) → b ≡ passes ((n * z ≤? r) ∷ []) → not b ≡ true → r < n * z
  over_told true p e = not_both e refl
  over_told false p e = by_not (n * z) r (λ h. fails _ (sym p) (h, tt))

module _ (s : List ℕ) (d l e : ℕ) (q : l ≡ record_limit s d) where
  pub fit_over : l < e → false ≡ padded s d e
  unfolding padded
  fit_over h = no _ (λ y. omega (arith, y.0))

  pub fit_loose : e + 7 < l → false ≡ padded s d e
  unfolding padded
  fit_loose h = no _ (λ y. omega (arith, y.1.0))

  pub fit_yes : e ≤ l → l ≤ e + 7 → true ≡ padded s d e
  unfolding padded
  fit_yes h k = yes _ (omega arith, (omega arith, tt))
