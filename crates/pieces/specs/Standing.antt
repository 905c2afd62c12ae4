-- Req 03: which records of a type stand where, by the pieces of a page, and what an edit does to these.
use Rattle.std.specs.Prelude.{ℕ, ◌+◌, ◌≡◌, List, [], ◌∷◌, ◌++◌, Bool, length, eqb}
use Rattle.wire.specs.Pick.{pick}
use Rattle.record.specs.Record.{type_at}

-- P holds of each piece
abbrev pub AllOf : (List ℕ → Type 0) → List (List ℕ) → Type 0
AllOf P [] = Unit {0}
AllOf P (r ∷ rs) = P r × AllOf P rs

-- the pieces of a type, each with its start, the first piece at `at`
unfoldable pub standing : ℕ → ℕ → List (List ℕ) → List (ℕ × List ℕ)
standing kind at [] = []
standing kind at (r ∷ rs) =
    pick (eqb (type_at r 0) kind) ((at, r) ∷ standing kind (at + length r) rs) (standing kind (at + length r) rs)

abbrev pub place_of : ℕ × List ℕ → ℕ
place_of p = p.0

-- those that stand there without the ones of which p holds
unfoldable pub without : (List ℕ → Bool) → List (ℕ × List ℕ) → List (ℕ × List ℕ)
without p [] = []
without p (q ∷ qs) = pick (p q.1) (without p qs) (q ∷ without p qs)

-- m is l with q at one place
pub record Inserted (l : List (ℕ × List ℕ)) (q : ℕ × List ℕ) (m : List (ℕ × List ℕ)) : Type 0 where
  pub before : List (ℕ × List ℕ)
  pub behind : List (ℕ × List ℕ)
  pub first : l ≡ before ++ behind
  pub second : m ≡ before ++ (q ∷ behind)
