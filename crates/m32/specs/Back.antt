-- Document 02, Req 01: 'every 32-bit number comes back, and no two sequences of numbers share their bytes'; and what is read is the one
-- code of its number.
use Rattle.std.specs.Prelude.{ℕ, ◌+◌, ◌≤◌, ◌<◌, ◌≡◌, List, ◌++◌, length, get_or, take, None}
use Rattle.wire.specs.Bytes.{Bytes}
use Rattle.m32.specs.M32.{Next, byte, bytes_next, found, read_code, Numbers, read_codes, code_of, codes}

-- each is a 32-bit number
pub record Words (xs : List ℕ) : Type 0 where
  pub small : (i : ℕ) → get_or xs i 0 < 4294967296

-- a source gives the bytes ys, the first at the position `at 0`, each other at the position behind the one before it
pub record Gives (next : ℕ → Next) (at : ℕ → ℕ) (ys : List ℕ) : Type 0 where
  pub each : (i : ℕ) → i < length ys → next (at i) ≡ byte (get_or ys i 0) (at (i + 1))

-- a number's code reads as the number, from whatever source it comes
abbrev pub NumberBack : Type 0
NumberBack =
    (next : ℕ → Next) (at : ℕ → ℕ) (x : ℕ) → x < 4294967296 → Gives next at (code_of x) →
    read_code next (at 0) ≡ found x (at (length (code_of x)))

-- and so do the codes of a sequence
abbrev pub ComesBack : Type 0
ComesBack =
    (next : ℕ → Next) (at : ℕ → ℕ) (xs : List ℕ) → Words xs → Gives next at (codes xs) →
    read_codes next (length xs) (at 0) ≡ record { numbers = xs; behind = at (length (codes xs)) }

-- so from a list of bytes, whatever stands behind them
abbrev pub ReadBack : Type 0
ReadBack =
    (xs rest : List ℕ) → Words xs → read_codes (bytes_next (codes xs ++ rest)) (length xs) 0 ≡ record { numbers = xs; behind = length (codes xs) }

-- sequences of any two lengths
abbrev pub NoShare : Type 0
NoShare = (xs ys : List ℕ) → Words xs → Words ys → codes xs ≡ codes ys → xs ≡ ys

-- The other way: what is read is the one code of its number, so that the bytes of the codes of some numbers are those that stood there.

-- whatever a source gives is a byte
pub record OnlyBytes (next : ℕ → Next) : Type 0 where
  pub small : (at y q : ℕ) → next at ≡ byte y q → y < 256

-- the bytes ys stand in a source from p on, and q is the position behind them
pub record Stands (next : ℕ → Next) (p : ℕ) (ys : List ℕ) (q : ℕ) : Type 0 where
  pub at : ℕ → ℕ
  pub first : at 0 ≡ p
  pub behind : at (length ys) ≡ q
  pub gives : Gives next at ys

-- a number is read exactly where its code stands
pub record CodeRead (next : ℕ → Next) (p x q : ℕ) : Type 0 where
  pub is_read : x < 4294967296 → Stands next p (code_of x) q → read_code next p ≡ found x q
  pub is_code : read_code next p ≡ found x q → (x < 4294967296) × Stands next p (code_of x) q

abbrev pub OneCode : Type 0
OneCode = (next : ℕ → Next) → OnlyBytes next → (p x q : ℕ) → CodeRead next p x q

-- and numbers, n at most, where their codes stand; they are fewer only where no code stands behind them
pub record CodesRead (next : ℕ → Next) (n p : ℕ) (r : Numbers) : Type 0 where
  pub words : Words r.numbers
  pub stand : Stands next p (codes r.numbers) r.behind
  pub few : length r.numbers ≤ n
  pub no_more_lem : length r.numbers < n → read_code next r.behind ≡ None

abbrev pub CodesAlone : Type 0
CodesAlone = (next : ℕ → Next) → OnlyBytes next → (n p : ℕ) → CodesRead next n p (read_codes next n p)

-- so in a list of bytes
pub record BytesTaken (s : List ℕ) : Type 0 where
  pub code : (x n : ℕ) → read_code (bytes_next s) 0 ≡ found x n → take n s ≡ code_of x
  pub all : (n : ℕ) → take (read_codes (bytes_next s) n 0).behind s ≡ codes (read_codes (bytes_next s) n 0).numbers

abbrev pub TakenBytes : Type 0
TakenBytes = (s : List ℕ) → Bytes s → BytesTaken s
