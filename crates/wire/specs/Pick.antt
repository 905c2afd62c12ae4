-- Choosing by a truth value, and rounding up.
use Rattle.std.specs.Prelude.{ℕ, ◌+◌, ◌*◌, ◌/◌, ◌-◌, Bool, true, false}

-- the first where the test holds, else the second
abbrev pub pick : {A : Type 0} → Bool → A → A → A
pick true a b = a
pick false a b = b

-- the least multiple of m that is at least x, where m is not 0
abbrev pub round_up : ℕ → ℕ → ℕ
round_up m x = (x + (m - 1)) / m * m
