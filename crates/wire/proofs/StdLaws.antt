-- What std says of a number's bytes, in the words of specs/. Assumes nothing.
use Prim.Native.Nat.{ℕ, zero, suc, ◌+◌, ◌*◌, ◌/◌, ◌%◌, ◌≤◌, ◌<◌}
use mathlib.Core.Path.{◌≡◌, refl, ap, ◌∙◌}
use mathlib.Core.List.{List, [], ◌∷◌}
use native.Mathlib.Omega.{arith}
use mathlib.Core.Logic.{by_cases}
use native.Mathlib.Decide.{dec_le}
use lib.ListN.{length, replicate}
use lib.Seq.{take_all}
use Rattle.std.specs.Array.{IsFirstChunk}
use Rattle.wire.proofs.ByteLaws.{part_out, part_length, number_out}
use Rattle.wire.proofs.BigLaws.{big_out}
use Rattle.std.specs.Int.{w16, w32, w64, from_le_bytes, from_be_bytes, to_le_bytes, to_be_bytes}
use Rattle.wire.specs.Bytes.{number, bytes_of, part, number_at}
use Rattle.wire.specs.Big.{big_from, big_of, big_at}

pub le_number_2 : (l : List ℕ) → length l ≡ 2 → from_le_bytes w16 l ≡ number l
unfolding number
le_number_2 [] h = absurd (omega arith)
le_number_2 (x0 ∷ []) h = absurd (omega arith)
le_number_2 (x0 ∷ x1 ∷ []) h = omega arith
le_number_2 (x0 ∷ x1 ∷ x2 ∷ l) h = absurd (omega arith)

pub le_number_4 : (l : List ℕ) → length l ≡ 4 → from_le_bytes w32 l ≡ number l
unfolding number
le_number_4 [] h = absurd (omega arith)
le_number_4 (x0 ∷ []) h = absurd (omega arith)
le_number_4 (x0 ∷ x1 ∷ []) h = absurd (omega arith)
le_number_4 (x0 ∷ x1 ∷ x2 ∷ []) h = absurd (omega arith)
le_number_4 (x0 ∷ x1 ∷ x2 ∷ x3 ∷ []) h = omega arith
le_number_4 (x0 ∷ x1 ∷ x2 ∷ x3 ∷ x4 ∷ l) h = absurd (omega arith)

pub le_number_8 : (l : List ℕ) → length l ≡ 8 → from_le_bytes w64 l ≡ number l
unfolding number
le_number_8 [] h = absurd (omega arith)
le_number_8 (x0 ∷ []) h = absurd (omega arith)
le_number_8 (x0 ∷ x1 ∷ []) h = absurd (omega arith)
le_number_8 (x0 ∷ x1 ∷ x2 ∷ []) h = absurd (omega arith)
le_number_8 (x0 ∷ x1 ∷ x2 ∷ x3 ∷ []) h = absurd (omega arith)
le_number_8 (x0 ∷ x1 ∷ x2 ∷ x3 ∷ x4 ∷ []) h = absurd (omega arith)
le_number_8 (x0 ∷ x1 ∷ x2 ∷ x3 ∷ x4 ∷ x5 ∷ []) h = absurd (omega arith)
le_number_8 (x0 ∷ x1 ∷ x2 ∷ x3 ∷ x4 ∷ x5 ∷ x6 ∷ []) h = absurd (omega arith)
le_number_8 (x0 ∷ x1 ∷ x2 ∷ x3 ∷ x4 ∷ x5 ∷ x6 ∷ x7 ∷ []) h = omega arith
le_number_8 (x0 ∷ x1 ∷ x2 ∷ x3 ∷ x4 ∷ x5 ∷ x6 ∷ x7 ∷ x8 ∷ l) h = absurd (omega arith)

pub be_number_2 : (l : List ℕ) → length l ≡ 2 → from_be_bytes w16 l ≡ big_from 0 l
unfolding big_from
be_number_2 [] h = absurd (omega arith)
be_number_2 (x0 ∷ []) h = absurd (omega arith)
be_number_2 (x0 ∷ x1 ∷ []) h = omega arith
be_number_2 (x0 ∷ x1 ∷ x2 ∷ l) h = absurd (omega arith)

pub be_number_4 : (l : List ℕ) → length l ≡ 4 → from_be_bytes w32 l ≡ big_from 0 l
unfolding big_from
be_number_4 [] h = absurd (omega arith)
be_number_4 (x0 ∷ []) h = absurd (omega arith)
be_number_4 (x0 ∷ x1 ∷ []) h = absurd (omega arith)
be_number_4 (x0 ∷ x1 ∷ x2 ∷ []) h = absurd (omega arith)
be_number_4 (x0 ∷ x1 ∷ x2 ∷ x3 ∷ []) h = omega arith
be_number_4 (x0 ∷ x1 ∷ x2 ∷ x3 ∷ x4 ∷ l) h = absurd (omega arith)

pub le_bytes_4 : (v : ℕ) → to_le_bytes w32 v ≡ bytes_of 4 v
unfolding bytes_of
le_bytes_4 v =
    let e2 : v / 256 / 256 ≡ v / 65536 = omega arith in
    let e3 : v / 65536 / 256 ≡ v / 16777216 = omega arith in
    rw (e2, e3) refl

pub le_bytes_8 : (v : ℕ) → to_le_bytes w64 v ≡ bytes_of 8 v
unfolding bytes_of
le_bytes_8 v =
    let e2 : v / 256 / 256 ≡ v / 65536 = omega arith in
    let e3 : v / 65536 / 256 ≡ v / 16777216 = omega arith in
    let e4 : v / 16777216 / 256 ≡ v / 4294967296 = omega arith in
    let e5 : v / 4294967296 / 256 ≡ v / 1099511627776 = omega arith in
    let e6 : v / 1099511627776 / 256 ≡ v / 281474976710656 = omega arith in
    let e7 : v / 281474976710656 / 256 ≡ v / 72057594037927936 = omega arith in
    rw (e2, e3, e4, e5, e6, e7) refl

pub be_bytes_2 : (v : ℕ) → to_be_bytes w16 v ≡ big_of 2 v
unfolding big_of
be_bytes_2 v = refl

pub be_bytes_4 : (v : ℕ) → to_be_bytes w32 v ≡ big_of 4 v
unfolding big_of
be_bytes_4 v =
    let e2 : v / 256 / 256 ≡ v / 65536 = omega arith in
    let e3 : v / 65536 / 256 ≡ v / 16777216 = omega arith in
    rw (e2, e3) refl

-- only the two lowest bytes count
pub big_low_2 : (v : ℕ) → big_of 2 (v % 65536) ≡ big_of 2 v
unfolding big_of
big_low_2 v =
    let h : v % 65536 / 256 % 256 ≡ v / 256 % 256 = omega arith in
    let l : v % 65536 % 256 ≡ v % 256 = omega arith in
    rw (h, l) refl

-- zeros are the number 0

zero_lowest : (n : ℕ) → number (replicate n 0) ≡ 0
unfolding number
zero_lowest zero = refl
zero_lowest (suc n) = omega (arith, zero_lowest n)

zero_highest : (n : ℕ) → big_from 0 (replicate n 0) ≡ 0
unfolding big_from
zero_highest zero = refl
zero_highest (suc n) = let z : 256 * 0 + 0 ≡ 0 = omega arith in rw z (zero_highest n)

-- p is the n bytes at a position, or none: its first n bytes, and zeros where it has not as many

module _ (n : ℕ) (s : List ℕ) (at : ℕ) {p : List ℕ} (h : p ≡ part s at n) where
  outside : length p < n → length s < at + n
  outside k = by_cases (dec_le (at + n) (length s)) (λ l. absurd (omega (arith, part_length s at n l, ap length h))) (λ l. omega arith)

  chunk_is : {b : List ℕ} → IsFirstChunk p b n → b ≡ part s at n
  chunk_is f =
      let l : length p ≤ n = by_cases (dec_le (at + n) (length s)) (λ l. omega (arith, part_length s at n l, ap length h)) (λ l. omega (arith, ap length h, ap length (part_out s at n (omega arith)))) in
      f.same ∙ take_all n p l ∙ h

  pub chunk_lowest : {b : List ℕ} → IsFirstChunk p b n → number b ≡ number_at n s at
  unfolding number_at
  chunk_lowest f = ap number (chunk_is f)

  pub chunk_highest : {b : List ℕ} → IsFirstChunk p b n → big_from 0 b ≡ big_at n s at
  unfolding big_at
  chunk_highest f = ap (big_from 0) (chunk_is f)

  pub none_lowest : length p < n → number (replicate n 0) ≡ number_at n s at
  none_lowest k = zero_lowest n ∙ number_out n s at (outside k)

  pub none_highest : length p < n → big_from 0 (replicate n 0) ≡ big_at n s at
  none_highest k = zero_highest n ∙ big_out n s at (outside k)
