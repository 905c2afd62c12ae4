-- Rules over a list of numbers, and over the numbers below a bound.
use Rattle.std.specs.Prelude.{ℕ, zero, suc, ◌+◌, List, [], ◌∷◌, ◌++◌, Bool, true, false, ◌||◌}
use Rattle.wire.specs.Pick.{pick}
use Rattle.wire.specs.Tests.{is, passes}

-- those of a list at which p holds
unfoldable pub select : (ℕ → Bool) → List ℕ → List ℕ
select p [] = []
select p (x ∷ xs) = pick (p x) (x ∷ select p xs) (select p xs)

-- p holds of all, of some of them
unfoldable pub every : (ℕ → Bool) → List ℕ → Bool
every p [] = true
every p (x ∷ xs) = passes (is (p x) ∷ is (every p xs) ∷ [])

unfoldable pub some : (ℕ → Bool) → List ℕ → Bool
some p [] = false
some p (x ∷ xs) = p x || some p xs

-- the numbers below n, in order
unfoldable pub below : ℕ → List ℕ
below zero = []
below (suc n) = below n ++ (n ∷ [])

-- 1 where it holds, else 0
unfoldable pub one_if : Bool → ℕ
one_if b = pick b 1 0

-- how many numbers below n p holds of
unfoldable pub count_below : ℕ → (ℕ → Bool) → ℕ
count_below zero p = 0
count_below (suc n) p = count_below n p + one_if (p n)
