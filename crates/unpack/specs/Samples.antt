-- Contents and what they hold, in one table. `two` and `one` are those of `huffman`'s samples.
use Rattle.std.specs.Prelude.{ℕ, ◌≡◌, List, [], ◌∷◌, map, Bool, true, false, take}
use Rattle.huffman.specs.Samples.{two, one}
use Rattle.unpack.specs.Unpack.{Cells, cells, malformed, unpacked}

-- a content of 2 rows of 4 columns, whether it is of Shorts, and what it holds
pub record Row : Type 0 where
  pub content : List ℕ
  pub short : Bool
  pub holds : Cells

abbrev pub row : List ℕ → Bool → Cells → Row
row c short x = record { content = c; short = short; holds = x }

-- the first by another predictor, and with another count field
abbrev pub two_by : ℕ → ℕ → List ℕ
two_by p n = 7 ∷ p ∷ 5 ∷ 0 ∷ 0 ∷ 0 ∷ n ∷ 0 ∷ 0 ∷ 0 ∷ 1 ∷ 2 ∷ 12 ∷ 184 ∷ 3 ∷ []

-- one leaf -128, by the triangle predictor
abbrev pub lowest : List ℕ
lowest = 7 ∷ 2 ∷ 0 ∷ 0 ∷ 0 ∷ 0 ∷ 7 ∷ 0 ∷ 0 ∷ 0 ∷ 0 ∷ 1 ∷ 1 ∷ []

-- one leaf 127, of a count field: each number is 254, in two bytes; and one leaf -127, whose magnitude never ends
abbrev pub pairs : ℕ → List ℕ
pairs n = 7 ∷ 0 ∷ 0 ∷ 0 ∷ 0 ∷ 0 ∷ n ∷ 0 ∷ 0 ∷ 0 ∷ 0 ∷ 255 ∷ 0 ∷ []

abbrev pub endless : List ℕ
endless = 7 ∷ 0 ∷ 0 ∷ 0 ∷ 0 ∷ 0 ∷ 7 ∷ 0 ∷ 0 ∷ 0 ∷ 0 ∷ 3 ∷ 1 ∷ []

-- two leaves of the symbol 0
abbrev pub twice : List ℕ
twice = 7 ∷ 0 ∷ 5 ∷ 0 ∷ 0 ∷ 0 ∷ 7 ∷ 0 ∷ 0 ∷ 0 ∷ 1 ∷ 2 ∷ 4 ∷ 184 ∷ 3 ∷ []

-- one leaf 0, so that each cell is the seed of these four bytes
abbrev pub steady : ℕ → ℕ → ℕ → ℕ → List ℕ
steady a b d e = 7 ∷ 2 ∷ a ∷ b ∷ d ∷ e ∷ 7 ∷ 0 ∷ 0 ∷ 0 ∷ 0 ∷ 1 ∷ 0 ∷ []

abbrev pub samples : List Row
samples =
    row two true (cells (5 ∷ 6 ∷ 7 ∷ 8 ∷ 5 ∷ 6 ∷ 7 ∷ 8 ∷ []))
    ∷ row (two_by 1 7) true (cells (5 ∷ 6 ∷ 8 ∷ 11 ∷ 5 ∷ 6 ∷ 8 ∷ 11 ∷ []))
    ∷ row (two_by 2 7) true (cells (5 ∷ 6 ∷ 7 ∷ 8 ∷ 5 ∷ 7 ∷ 9 ∷ 11 ∷ []))
    ∷ row (two_by 3 7) true malformed
    ∷ row (two_by 0 8) true malformed
    ∷ row (take 14 two) true malformed
    ∷ row (take 10 two) true malformed
    ∷ row one true (cells (3 ∷ 2 ∷ 1 ∷ 0 ∷ 2 ∷ 1 ∷ 0 ∷ 65535 ∷ []))
    ∷ row one false (cells (3 ∷ 2 ∷ 1 ∷ 0 ∷ 2 ∷ 1 ∷ 0 ∷ 4294967295 ∷ []))
    ∷ row lowest false
    (cells (0 ∷ 2147483648 ∷ 0 ∷ 2147483648 ∷ 2147483648 ∷ 2147483648 ∷ 2147483648 ∷ 2147483648 ∷ []))
    ∷ row lowest true malformed
    ∷ row (pairs 7) true (cells (0 ∷ 254 ∷ 508 ∷ 762 ∷ 254 ∷ 508 ∷ 762 ∷ 1016 ∷ []))
    ∷ row (pairs 14) true (cells (0 ∷ 254 ∷ 508 ∷ 762 ∷ 254 ∷ 508 ∷ 762 ∷ 1016 ∷ []))
    ∷ row (pairs 8) true malformed
    ∷ row endless true malformed
    ∷ row twice true malformed
    ∷ row (steady 255 127 0 0) true (cells (32767 ∷ 32767 ∷ 32767 ∷ 32767 ∷ 32767 ∷ 32767 ∷ 32767 ∷ 32767 ∷ []))
    ∷ row (steady 0 128 255 255) true (cells (32768 ∷ 32768 ∷ 32768 ∷ 32768 ∷ 32768 ∷ 32768 ∷ 32768 ∷ 32768 ∷ []))
    ∷ row (steady 0 128 0 0) true malformed
    ∷ row (steady 255 127 255 255) true malformed
    ∷ row (steady 5 0 1 0) true malformed
    ∷ []

pub record SamplesHold : Type 0 where
  pub each : map (λ (r : Row). unpacked r.content 2 4 r.short) samples ≡ map (λ (r : Row). r.holds) samples
  pub no_side_lem : unpacked two 0 4 true ≡ malformed
  pub long_side : unpacked two 4097 1 true ≡ malformed
