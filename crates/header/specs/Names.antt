-- G 3.6.1, the five numbered rules of identifiers and the paragraph beneath them (Req 02). A character is a byte.
use Rattle.std.specs.Prelude.{ℕ, ◌-◌, ◌≡◌, List, [], ◌∷◌, ◌++◌, Bool, true, false, ◌||◌, length}
use Rattle.wire.specs.Tests.{◌≤?◌, ◌≢?◌, is, passes}
use Rattle.wire.specs.Bytes.{byte_at}

-- from a to b
unfoldable pub within : ℕ → ℕ → ℕ → Bool
within a b x = passes ((a ≤? x) ∷ (x ≤? b) ∷ [])

-- `A` to `Z`, `a` to `z`
unfoldable pub letter : ℕ → Bool
letter b = within 65 90 b || within 97 122 b

-- rule 4: ASCII upper and lower case letters, numbers, underscores
unfoldable pub name_byte : ℕ → Bool
name_byte b = letter b || (within 48 57 b || within 95 95 b)

unfoldable pub name_bytes : List ℕ → Bool
name_bytes [] = true
name_bytes (b ∷ bs) = passes (is (name_byte b) ∷ is (name_bytes bs) ∷ [])

-- the five numbered rules, of at most `most` characters: at least one character (rule 2), within the maximum length (rule 3), of
-- ASCII characters (rule 1) that are letters, numbers or underscores, and a letter first (rule 4).
-- Identifiers are case sensitive (rule 5): names are compared byte for byte, by `same_bytes`
unfoldable pub five_rules : ℕ → List ℕ → Bool
five_rules most [] = false
five_rules most (b ∷ bs) = passes (is (letter b) ∷ is (name_bytes bs) ∷ (length (b ∷ bs) ≤? most) ∷ [])

-- the last byte, 0 of no bytes
unfoldable pub last_byte : List ℕ → ℕ
last_byte l = byte_at l (length l - 1)

-- an identifier: the five rules, and by the paragraph beneath them no underscore at the end (Req 02). One at the start is refused
-- by rule 4
unfoldable pub identifier : ℕ → List ℕ → Bool
identifier most l = passes (is (five_rules most l) ∷ (last_byte l ≢? 95) ∷ [])

-- the most characters of an element's name (G Table 8) and of a metadata record's (document 01, stage 8)
abbrev pub longest_name : ℕ
longest_name = 32

-- Req 02: a name that ends or begins with an underscore is refused, any other is judged by the five rules
pub record Underscores : Type 0 where
  pub last : (m : ℕ) (l : List ℕ) → identifier m (l ++ 95 ∷ []) ≡ false
  pub first : (m : ℕ) (l : List ℕ) → identifier m (95 ∷ l) ≡ false
  pub else_as_before : (m : ℕ) (l : List ℕ) → (last_byte l ≡ 95 → ⊥) → identifier m l ≡ five_rules m l
