-- Numbers at the ends of every range and their codes, in one table, and bytes that are no code.
use Rattle.std.specs.Prelude.{ℕ, ◌≡◌, List, [], ◌∷◌, map, length, Option, None}
use Rattle.m32.specs.M32.{bytes_next, found, read_code, code_of}
use Rattle.m32.specs.declared.Found.{Found}

pub record Row : Type 0 where
  pub number : ℕ
  pub code : List ℕ

abbrev pub row : ℕ → List ℕ → Row
row x bs = record { number = x; code = bs }

abbrev pub samples : List Row
samples =
    row 0 (0 ∷ [])
    ∷ row 126 (126 ∷ [])
    ∷ row 4294967170 (130 ∷ [])
    ∷ row 127 (127 ∷ 0 ∷ [])
    ∷ row 4294967169 (129 ∷ 0 ∷ [])
    ∷ row 254 (127 ∷ 127 ∷ [])
    ∷ row 255 (127 ∷ 128 ∷ 0 ∷ [])
    ∷ row 16638 (127 ∷ 255 ∷ 127 ∷ [])
    ∷ row 16639 (127 ∷ 128 ∷ 128 ∷ 0 ∷ [])
    ∷ row 2113790 (127 ∷ 255 ∷ 255 ∷ 127 ∷ [])
    ∷ row 2113791 (127 ∷ 128 ∷ 128 ∷ 128 ∷ 0 ∷ [])
    ∷ row 270549246 (127 ∷ 255 ∷ 255 ∷ 255 ∷ 127 ∷ [])
    ∷ row 270549247 (127 ∷ 128 ∷ 128 ∷ 128 ∷ 128 ∷ 0 ∷ [])
    ∷ row 2147483647 (127 ∷ 134 ∷ 254 ∷ 254 ∷ 254 ∷ 0 ∷ [])
    ∷ row 2147483648 (128 ∷ [])
    ∷ []

-- no byte, a magnitude that ends early, one above 2147483647, a sixth byte
abbrev pub faults : List (List ℕ)
faults =
    []
    ∷ (127 ∷ [])
    ∷ (127 ∷ 128 ∷ [])
    ∷ (127 ∷ 134 ∷ 254 ∷ 254 ∷ 254 ∷ 1 ∷ [])
    ∷ (127 ∷ 128 ∷ 128 ∷ 128 ∷ 128 ∷ 128 ∷ 0 ∷ [])
    ∷ []

-- what stands at the start of some bytes
abbrev pub read : List ℕ → Option Found
read s = read_code (bytes_next s) 0

pub record SamplesHold : Type 0 where
  pub written : map (λ (r : Row). code_of r.number) samples ≡ map (λ (r : Row). r.code) samples
  pub back : map (λ (r : Row). read r.code) samples ≡ map (λ (r : Row). found r.number (length r.code)) samples
  pub refused : map read faults ≡ map (λ (s : List ℕ). None) faults
