-- One octet, and a row of them. Assumes nothing.
use Prim.Native.Nat.{ℕ, ◌≤◌, ◌<◌}
use mathlib.Core.Path.{◌≡◌, refl, sym}
use mathlib.Core.List.{List, [], ◌∷◌}
use mathlib.Core.Bool.{Bool, true, false}
use native.Mathlib.Omega.{arith}
use Rattle.wire.specs.Tests.{both}
use Rattle.wire.proofs.TestLaws.{means, yes, no, not_both}
use Rattle.utf8.specs.Utf8.{octet, matches}

-- x is from a to b
abbrev pub Within : ℕ → ℕ → ℕ → Type 0
Within a b x = (a ≤ x) × (x ≤ b)

module _ (a b x : ℕ) where
  pub octet_in : Within a b x → octet a b x ≡ true
  unfolding octet
  octet_in h = sym (yes _ (h.0, (h.1, tt)))

  pub octet_out : (a ≤ x → b < x) → octet a b x ≡ false
  unfolding octet
  octet_out f = sym (no _ (λ z. let h = f z.0 in omega arith))

  pub octet_means : octet a b x ≡ true → Within a b x
  unfolding octet
  octet_means e = let m = means _ e in (m.0, m.1.0)

pub both_split : (a b : Bool) → both a b ≡ true → (a ≡ true) × (b ≡ true)
both_split true b e = (refl, e)
both_split false b e = not_both e refl

-- a row with one octet more, at its start
pub one_more_lem : (p : ℕ → Bool) (ps : List (ℕ → Bool)) (b : ℕ) (c : List ℕ) → p b ≡ true → matches ps c ≡ true → matches (p ∷ ps) (b ∷ c) ≡ true
unfolding matches
one_more_lem p ps b c e f = rw (e, f)

-- the bytes of a row without octets
pub nothing_left : (c : List ℕ) → matches [] c ≡ true → c ≡ []
unfolding matches
nothing_left [] e = refl
nothing_left (b ∷ c) e = not_both e refl
