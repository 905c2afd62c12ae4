-- Req 04's samples of names compared, as one table: two names, and what the comparison tells.
use Rattle.std.specs.Prelude.{ℕ, ◌≡◌, List, [], ◌∷◌, map, Bool, true, false}
use Rattle.wire.specs.declared.Compared.{Compared}
use Rattle.wire.specs.Compare.{compared}

-- the names: `score`, `scores`, `Score`, `scare`, `scorf`
abbrev pub score : List ℕ
score = 115 ∷ 99 ∷ 111 ∷ 114 ∷ 101 ∷ []

abbrev pub scores : List ℕ
scores = 115 ∷ 99 ∷ 111 ∷ 114 ∷ 101 ∷ 115 ∷ []

abbrev pub capital : List ℕ
capital = 83 ∷ 99 ∷ 111 ∷ 114 ∷ 101 ∷ []

abbrev pub scare : List ℕ
scare = 115 ∷ 99 ∷ 97 ∷ 114 ∷ 101 ∷ []

abbrev pub scorf : List ℕ
scorf = 115 ∷ 99 ∷ 111 ∷ 114 ∷ 102 ∷ []

pub record Comparison : Type 0 where
  pub told : Compared
  pub wanted : Compared

-- two names, whether they are equal, and the pairs read
abbrev pub comparison : List ℕ → List ℕ → Bool → ℕ → Comparison
comparison a b e n = record { told = compared a b; wanted = record { equal = e; pairs = n } }

abbrev pub comparisons : List Comparison
comparisons =
    comparison [] [] true 0
    ∷ comparison score scores false 0
    ∷ comparison score capital false 1
    ∷ comparison score scare false 3
    ∷ comparison score scorf false 5
    ∷ comparison score score true 5
    ∷ []

abbrev pub ComparisonsHold : Type 0
ComparisonsHold = map (λ (r : Comparison). r.told) comparisons ≡ map (λ (r : Comparison). r.wanted) comparisons
