-- Req 03, reading 12: "takes the start of the lowest free record of its length or at least 16 more, else the end", in plain facts: of
-- records rs, the first of them at `at`, and a new record of n bytes.
use Rattle.std.specs.Prelude.{ℕ, ◌+◌, ◌-◌, ◌≡◌, ◌⊎◌, true, false, List, [], ◌∷◌, ◌++◌, length}
use Rattle.record.specs.Chain.{joined}
use Rattle.pieces.specs.Edits.{takes, left_over, place_for, placed}
use Rattle.pieces.specs.Standing.{AllOf}

-- one of them takes it, and none before that one does: it stands at its start, what is left over of it behind, and the others stay
pub record LowestTaken (at n : ℕ) (rs : List (List ℕ)) : Type 0 where
  pub before : List (List ℕ)
  pub taken : List ℕ
  pub behind : List (List ℕ)
  pub whole : rs ≡ before ++ (taken ∷ behind)
  pub fits : takes n taken ≡ true
  pub none_lower : AllOf (λ r. takes n r ≡ false) before
  pub place : place_for at n rs ≡ at + length (joined before)
  pub puts : (flag : ℕ) (v : List ℕ) → length v ≡ n → placed flag v rs ≡ before ++ (v ∷ (left_over flag (length taken - n) ++ behind))

-- none takes it: it stands behind them all
pub record NoneTaken (at n : ℕ) (rs : List (List ℕ)) : Type 0 where
  pub none : AllOf (λ r. takes n r ≡ false) rs
  pub place : place_for at n rs ≡ at + length (joined rs)
  pub puts : (flag : ℕ) (v : List ℕ) → length v ≡ n → placed flag v rs ≡ rs ++ (v ∷ [])

abbrev pub LowestFit : Type 0
LowestFit = (at n : ℕ) (rs : List (List ℕ)) → LowestTaken at n rs ⊎ NoneTaken at n rs
