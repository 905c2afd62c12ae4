-- Req 08's sample sums on record IDs, as a table: the IDs under the name, and the rule that they say.
use Rattle.std.specs.Prelude.{ℕ, ◌≡◌, List, [], ◌∷◌, map}
use Rattle.score_rule.specs.declared.Said.{Said}
use Rattle.score_rule.specs.declared.Said.TheVariants.{First, Second, Wrong}
use Rattle.score_rule.specs.Rules.{rule_said}

pub record Row : Type 0 where
  pub ids : List ℕ
  pub says : Said

abbrev row : List ℕ → Said → Row
row l x = record { ids = l; says = x }

-- no record; 1; 2; both in either order; 0; 3; 2 with 3; -1 and -2, of four bytes; 258 and 65538, whose lowest byte, or two, are 2
abbrev pub sums : List Row
sums =
    row [] First
    ∷ row (1 ∷ []) First
    ∷ row (2 ∷ []) Second
    ∷ row (1 ∷ 2 ∷ []) Wrong
    ∷ row (2 ∷ 1 ∷ []) Wrong
    ∷ row (0 ∷ []) Wrong
    ∷ row (3 ∷ []) Wrong
    ∷ row (2 ∷ 3 ∷ []) Wrong
    ∷ row (4294967295 ∷ []) Wrong
    ∷ row (4294967294 ∷ []) Wrong
    ∷ row (258 ∷ []) Wrong
    ∷ row (65538 ∷ []) Wrong
    ∷ []

abbrev pub SamplesHold : Type 0
SamplesHold = map (λ (x : Row). rule_said x.ids) sums ≡ map (λ (x : Row). x.says) sums
