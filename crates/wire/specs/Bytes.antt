-- A file is a list of bytes, and a position counts from 0. Numbers are little-endian (G 4.1.1).
-- Reading is total: what does not lie whole in the list reads as nothing, and as the number 0.
use Rattle.std.specs.Prelude.{ℕ, zero, suc, ◌+◌, ◌*◌, ◌/◌, ◌%◌, ◌≤◌, ◌<◌, ◌≡◌, List, [], ◌∷◌, ◌++◌, Bool, true, false, length, get_or, take, drop, replicate, leb, eqb}
use Rattle.wire.specs.Pick.{pick}
use Rattle.wire.specs.Tests.{both}

-- each element is a byte
pub record Bytes (s : List ℕ) : Type 0 where
  pub small : (i : ℕ) → get_or s i 0 < 256

-- the byte at a position, 0 past the end
unfoldable pub byte_at : List ℕ → ℕ → ℕ
byte_at s at = get_or s at 0

-- the n bytes from `at` on; none where they do not lie whole in s
unfoldable pub part : List ℕ → ℕ → ℕ → List ℕ
part s at n = pick (leb (at + n) (length s)) (take n (drop at s)) []

-- the number whose bytes these are, lowest first (G 4.1.1)
unfoldable pub number : List ℕ → ℕ
number [] = 0
number (b ∷ bs) = b + 256 * number bs

-- the number of w bytes at a position; 0 where they do not lie whole in s
unfoldable pub number_at : ℕ → List ℕ → ℕ → ℕ
number_at w s at = number (part s at w)

-- G Table 4: an Unsigned Short, an Integer's or a Float's four bytes, a Long's eight, each as the number of its bits
abbrev pub u16_at : List ℕ → ℕ → ℕ
u16_at s at = number_at 2 s at

abbrev pub u32_at : List ℕ → ℕ → ℕ
u32_at s at = number_at 4 s at

abbrev pub u64_at : List ℕ → ℕ → ℕ
u64_at s at = number_at 8 s at

-- the largest Integer (G Table 4): a four-byte number above it is a negative one
abbrev pub largest_integer : ℕ
largest_integer = 2147483647

-- the w lowest bytes of a number, lowest first (G 4.1.1)
unfoldable pub bytes_of : ℕ → ℕ → List ℕ
bytes_of zero v = []
bytes_of (suc w) v = v % 256 ∷ bytes_of w (v / 256)

-- whether two lists of bytes are equal
unfoldable pub same_bytes : List ℕ → List ℕ → Bool
same_bytes [] [] = true
same_bytes [] (y ∷ ys) = false
same_bytes (x ∷ xs) [] = false
same_bytes (x ∷ xs) (y ∷ ys) = both (eqb x y) (same_bytes xs ys)

-- the bytes of s and t from a up to b are there and are the same
pub record Same (s t : List ℕ) (a b : ℕ) : Type 0 where
  pub in_first : b ≤ length s
  pub in_second : b ≤ length t
  pub each : (i : ℕ) → a ≤ i → i < b → byte_at s i ≡ byte_at t i

-- the list d with v in place of what stands from `at` on; d as it is where v does not fit
unfoldable pub put : List ℕ → ℕ → List ℕ → List ℕ
put d at v = pick (leb (at + length v) (length d)) (take at d ++ v ++ drop (at + length v) d) d

-- n bytes of zero, as reserved fields and padding are
unfoldable pub zeros : ℕ → List ℕ
zeros n = replicate n 0

-- where a part starts in s: at its position, and at 0 where it is empty because it does not lie whole in s
unfoldable pub part_at : List ℕ → ℕ → ℕ → ℕ
part_at s at n = pick (leb (at + n) (length s)) at 0
