-- Req 04: what a comparison of two names tells. A name is a list of bytes, and a byte pair is the two bytes at one position.
use Rattle.std.specs.Prelude.{ℕ, suc, ◌+◌, ◌<◌, min, ◌≡◌, List, [], ◌∷◌, length, eqb}
use Rattle.wire.specs.declared.Compared.{Compared}
use Rattle.wire.specs.Pick.{pick}
use Rattle.wire.specs.Bytes.{byte_at, same_bytes, Same}

-- Req 04, "leave at the first differing byte": how many pairs from the start on are equal, before the first that differs
unfoldable pub agreeing : List ℕ → List ℕ → ℕ
agreeing [] ys = 0
agreeing (x ∷ xs) [] = 0
agreeing (x ∷ xs) (y ∷ ys) = pick (eqb x y) (suc (agreeing xs ys)) 0

-- Req 04, "how many byte pairs it read: none if the lengths differ, all if the names are equal, else up to and with the first
-- that differs": one more than agree, but never more than there are
unfoldable pub pairs_read : List ℕ → List ℕ → ℕ
pairs_read a b = pick (eqb (length a) (length b)) (min (length a) (agreeing a b + 1)) 0

-- Req 04, "Equal or not stays. The comparison also tells how many byte pairs it read"
unfoldable pub compared : List ℕ → List ℕ → Compared
compared a b = record { equal = same_bytes a b; pairs = pairs_read a b }

-- the sentence on the pairs, part by part
pub record Counted (a b : List ℕ) : Type 0 where
  -- "none if the lengths differ"
  pub lengths : (length a ≡ length b → ⊥) → pairs_read a b ≡ 0
  -- "all if the names are equal"
  pub equal : a ≡ b → pairs_read a b ≡ length a
  -- "else up to and with the first that differs": k is its position
  pub first : length a ≡ length b → (k : ℕ) → k < length a → Same a b 0 k → (byte_at a k ≡ byte_at b k → ⊥) → pairs_read a b ≡ k + 1

abbrev pub PairsRead : Type 0
PairsRead = (a b : List ℕ) → Counted a b

-- "leave at the first differing byte": other names of the same lengths, with the same bytes as far as pairs are read, get the same
-- answer, whatever comes behind
abbrev pub NothingBehind : Type 0
NothingBehind =
    (a b a' b' : List ℕ) → length a ≡ length a' → length b ≡ length b' → Same a a' 0 (pairs_read a b) → Same b b' 0 (pairs_read a b) →
    compared a' b' ≡ compared a b
