-- RFC 3629, section 3: the encoding of a character number; and that section 4's grammar is the encodings, no more and no less.
use Rattle.std.specs.Prelude.{ℕ, zero, suc, ◌+◌, ◌/◌, ◌%◌, ◌≤◌, ◌≡◌, List, [], ◌∷◌, ◌++◌, leb}
use Rattle.wire.specs.Pick.{pick}
use Rattle.utf8.specs.Utf8.{Octets}

-- a character number is from 0 to 10FFFF, and none of those from D800 to DFFF, whose encoding is prohibited
pub record Scalar (c : ℕ) : Type 0 where
  pub within : c ≤ 0x10FFFF
  pub no_surrogate : 0xD800 ≤ c → c ≤ 0xDFFF → ⊥

-- step 3: the x bits of the last octet, 10xxxxxx, are filled with the number's six lowest bits, and the octets before it with the bits
-- above those. `mark` is the first octet's pattern with its x bits zero, and k octets stand behind the first
unfoldable pub filled : ℕ → ℕ → ℕ → List ℕ
filled mark zero c = (mark + c) ∷ []
filled mark (suc k) c = filled mark k (c / 64) ++ ((0b1000_0000 + c % 64) ∷ [])

-- the four rows of the table, by the number's range: the first octet's pattern, and how many octets stand behind it. A number above the
-- last range has no encoding
unfoldable pub encode : ℕ → List ℕ
encode c =
    pick (leb c 0x7F) (filled 0b0000_0000 0 c)
    (pick (leb c 0x7FF) (filled 0b1100_0000 1 c)
    (pick (leb c 0xFFFF) (filled 0b1110_0000 2 c)
    (pick (leb c 0x10FFFF) (filled 0b1111_0000 3 c) [])))

-- the encodings of numbers, one behind the other
unfoldable pub encodings : List ℕ → List ℕ
encodings [] = []
encodings (c ∷ cs) = encode c ++ encodings cs

abbrev pub Scalars : List ℕ → Type 0
Scalars [] = Unit {0}
Scalars (c ∷ cs) = Scalar c × Scalars cs

-- the bytes are the encodings of character numbers
pub record Encoded (s : List ℕ) : Type 0 where
  pub numbers : List ℕ
  pub scalars : Scalars numbers
  pub are : s ≡ encodings numbers

-- the grammar gives these bytes, and no others
abbrev pub IsEncodings : Type 0
IsEncodings = (s : List ℕ) → (Octets s → Encoded s) × (Encoded s → Octets s)

-- bytes are the encodings of one list of character numbers at the most
abbrev pub DecodesOnce : Type 0
DecodesOnce = (cs ds : List ℕ) → Scalars cs → Scalars ds → encodings cs ≡ encodings ds → cs ≡ ds
