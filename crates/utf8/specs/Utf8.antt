-- RFC 3629, section 4: which bytes are UTF-8.
use Rattle.std.specs.Prelude.{ℕ, ◌≡◌, Bool, true, false}
use mathlib.Core.List.{List, [], ◌∷◌, ◌++◌, Memᴰ}
use Rattle.wire.specs.Pick.{pick}
use Rattle.wire.specs.Tests.{◌≤?◌, both, passes}

-- an octet from a to b, %xa-b
unfoldable pub octet : ℕ → ℕ → ℕ → Bool
octet a b x = passes ((a ≤? x) ∷ (x ≤? b) ∷ [])

-- UTF8-tail
unfoldable pub tail : ℕ → Bool
tail = octet 0x80 0xBF

-- UTF8-char: UTF8-1, UTF8-2, the four alternatives of UTF8-3, the three of UTF8-4
unfoldable pub rows : List (List (ℕ → Bool))
rows =
    (octet 0x00 0x7F ∷ [])
    ∷ (octet 0xC2 0xDF ∷ tail ∷ [])
    ∷ (octet 0xE0 0xE0 ∷ octet 0xA0 0xBF ∷ tail ∷ [])
    ∷ (octet 0xE1 0xEC ∷ tail ∷ tail ∷ [])
    ∷ (octet 0xED 0xED ∷ octet 0x80 0x9F ∷ tail ∷ [])
    ∷ (octet 0xEE 0xEF ∷ tail ∷ tail ∷ [])
    ∷ (octet 0xF0 0xF0 ∷ octet 0x90 0xBF ∷ tail ∷ tail ∷ [])
    ∷ (octet 0xF1 0xF3 ∷ tail ∷ tail ∷ tail ∷ [])
    ∷ (octet 0xF4 0xF4 ∷ octet 0x80 0x8F ∷ tail ∷ tail ∷ [])
    ∷ []

-- one byte for each octet of the row
unfoldable pub matches : List (ℕ → Bool) → List ℕ → Bool
matches [] [] = true
matches [] (b ∷ bs) = false
matches (p ∷ ps) [] = false
matches (p ∷ ps) (b ∷ bs) = both (p b) (matches ps bs)

-- UTF8-octets = *( UTF8-char )
pub data Octets : List ℕ → Type 0 where
  none : Octets []
  more : (row : List (ℕ → Bool)) (c rest : List ℕ) → Memᴰ row rows → matches row c ≡ true → Octets rest → Octets (c ++ rest)

-- the same as a test, a byte after the other

-- what no byte is
unfoldable pub never : ℕ → Bool
never = octet 1 0

-- what has to follow a byte that begins a row; where it begins none, what no byte is
unfoldable pub following : ℕ → List (List (ℕ → Bool)) → List (ℕ → Bool)
following b [] = never ∷ []
following b ([] ∷ rs) = following b rs
following b ((p ∷ ps) ∷ rs) = pick (p b) ps (following b rs)

-- the bytes begin with the octets that are still wanted, and go on in whole characters
unfoldable pub goes_on : List (ℕ → Bool) → List ℕ → Bool
goes_on [] [] = true
goes_on (p ∷ ps) [] = false
goes_on [] (b ∷ bs) = goes_on (following b rows) bs
goes_on (p ∷ ps) (b ∷ bs) = both (p b) (goes_on ps bs)

-- whether bytes are UTF-8
unfoldable pub utf8 : List ℕ → Bool
utf8 s = goes_on [] s

-- the test is the grammar
abbrev pub TestIsGrammar : Type 0
TestIsGrammar = (s : List ℕ) → (utf8 s ≡ true → Octets s) × (Octets s → utf8 s ≡ true)
