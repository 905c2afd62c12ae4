-- The tile directory's references, from what the functions below them answer. Assumes nothing.
use Prim.Native.Nat.{ℕ, ◌+◌, ◌*◌, ◌≤◌, ◌<◌}
use mathlib.Core.Path.{◌≡◌, sym, ◌∙◌}
use mathlib.Core.List.{List}
use mathlib.Core.Bool.{Bool, true, false}
use native.Mathlib.Omega.{arith}
use Rattle.wire.proofs.CountLaws.{one_yes, one_no}
use Rattle.wire.specs.Lists.{one_if}
use borrow.Author.Tests.{ne_eqb}
use Rattle.wire.proofs.TestLaws.{yes, no}
use Rattle.check_directory.specs.TileRules.{gives, form_right}
use Rattle.bodies.specs.TileDirectory.{tile_directory_at, directory_format, standard_references, reference_count, reference_at, reference_size, references_end}
use Rattle.record.specs.Record.{padded}

-- the form

module _ (s : List ℕ) (at : ℕ) (p : at ≡ tile_directory_at s) where
  pub format_other : (f : ℕ) → f ≡ directory_format s at → (f ≡ 0 → ⊥) → false ≡ form_right s
  unfolding form_right
  format_other f q h = rw (← p) (no _ (λ y. h (q ∙ y.0)))

  pub standard_other : (f : ℕ) → f ≡ standard_references s at → 1 < f → false ≡ form_right s
  unfolding form_right
  standard_other f q h = rw (← p) (no _ (λ y. omega (arith, y.1.0)))

  pub form_is : (f g : ℕ) → f ≡ directory_format s at → f ≡ 0 → g ≡ standard_references s at → g ≤ 1 → true ≡ form_right s
  unfolding form_right
  form_is f g q h t k = rw (← p) (yes _ (sym q ∙ h, (omega arith, tt)))

-- what a function's answer tells of its definition
pub told : {r b v : Bool} → r ≡ b → r ≡ v → b ≡ v
told p q = sym p ∙ q

pub fit_is :
    (s : List ℕ) (d n z : ℕ) (b : Bool) → d ≡ tile_directory_at s → n ≡ reference_count s → z ≡ reference_size s →
    b ≡ padded s d (d + 32 + n * z) → b ≡ padded s (tile_directory_at s) (references_end s)
unfolding references_end
fit_is s d n z b p q t e = e ∙ rw (p, q, t)

module _ (s : List ℕ) (at k r : ℕ) (p : at ≡ tile_directory_at s) (q : r ≡ reference_at s at k) where
  pub given_one : (r ≡ 0 → ⊥) → (1 ≡ one_if (gives s k)) × (1 ≤ 1)
  unfolding gives
  given_one h = one_yes _ (rw (← p, ← q, ne_eqb r 0 h))

  pub given_none : r ≡ 0 → (0 ≡ one_if (gives s k)) × (0 ≤ 1)
  unfolding gives
  given_none h = one_no _ (rw (← p, ← q, h))
