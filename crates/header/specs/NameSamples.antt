-- Req 02's samples of names, as one table: each name, and whether an element or a metadata record may have it.
use Rattle.std.specs.Prelude.{ℕ, ◌≡◌, List, [], ◌∷◌, map, Bool, true, false}
use Rattle.header.specs.Names.{identifier}

pub record Named : Type 0 where
  pub name : List ℕ
  pub allowed : Bool

abbrev pub named : List ℕ → Bool → Named
named n b = record { name = n; allowed = b }

-- `score_`, `_score`, `_`, `a_`; `score_1`, `score_rule`, `a`, `a__b`
abbrev pub names : List Named
names =
    named (115 ∷ 99 ∷ 111 ∷ 114 ∷ 101 ∷ 95 ∷ []) false
    ∷ named (95 ∷ 115 ∷ 99 ∷ 111 ∷ 114 ∷ 101 ∷ []) false
    ∷ named (95 ∷ []) false
    ∷ named (97 ∷ 95 ∷ []) false
    ∷ named (115 ∷ 99 ∷ 111 ∷ 114 ∷ 101 ∷ 95 ∷ 49 ∷ []) true
    ∷ named (115 ∷ 99 ∷ 111 ∷ 114 ∷ 101 ∷ 95 ∷ 114 ∷ 117 ∷ 108 ∷ 101 ∷ []) true
    ∷ named (97 ∷ []) true
    ∷ named (97 ∷ 95 ∷ 95 ∷ 98 ∷ []) true
    ∷ []

abbrev pub NamesHold : Type 0
NamesHold = map (λ (r : Named). identifier 32 r.name) names ≡ map (λ (r : Named). r.allowed) names
