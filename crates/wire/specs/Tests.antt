-- A rule as a list of tests: what computes (`passes`), and what it says (`Holds`).
use Rattle.std.specs.Prelude.{ℕ, zero, suc, ◌+◌, ◌≤◌, ◌≡◌, List, [], ◌∷◌, Bool, true, false, not, leb, eqb}

infix 50 ◌≤?◌ ◌≡?◌ ◌≢?◌
pub data Test : Type 0 where
  ◌≤?◌ ◌≡?◌ ◌≢?◌ : ℕ → ℕ → Test
  is : Bool → Test
  is_not : Bool → Test

abbrev pub test : Test → Bool
test (a ≤? b) = leb a b
test (a ≡? b) = eqb a b
test (a ≢? b) = not (eqb a b)
test (is b) = b
test (is_not b) = not b

abbrev pub both : Bool → Bool → Bool
both true b = b
both false b = false

-- every test of the list holds
unfoldable pub passes : List Test → Bool
passes [] = true
passes (t ∷ ts) = both (test t) (passes ts)

abbrev pub Says : Test → Type 0
Says (a ≤? b) = a ≤ b
Says (a ≡? b) = a ≡ b
Says (a ≢? b) = a ≡ b → ⊥
Says (is b) = b ≡ true
Says (is_not b) = b ≡ false

abbrev pub Holds : List Test → Type 0
Holds [] = Unit {0}
Holds (t ∷ ts) = Says t × Holds ts

-- p holds of every number below n
unfoldable pub all_below : ℕ → (ℕ → Bool) → Bool
all_below zero p = true
all_below (suc n) p = passes (is (all_below n p) ∷ is (p n) ∷ [])

-- f of each number below n, added up
unfoldable pub sum_below : ℕ → (ℕ → ℕ) → ℕ
sum_below zero f = 0
sum_below (suc n) f = sum_below n f + f n
