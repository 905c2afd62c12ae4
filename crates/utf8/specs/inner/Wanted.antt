-- The octets that a state stands for: as many as are left, the next one in its range, from low to high, and tails behind it.
use Rattle.std.specs.Prelude.{ℕ, zero, suc, List, [], ◌∷◌, Bool}
use Rattle.utf8.specs.declared.Wanted.{Wanted}
use Rattle.utf8.specs.Utf8.{octet, tail}

unfoldable pub tails : ℕ → List (ℕ → Bool)
tails zero = []
tails (suc n) = tail ∷ tails n

unfoldable pub wanted_of : ℕ → (ℕ → Bool) → List (ℕ → Bool)
wanted_of zero p = []
wanted_of (suc n) p = p ∷ tails n

unfoldable pub wanted : Wanted → List (ℕ → Bool)
wanted w = wanted_of w.0 (octet w.1 w.2)
