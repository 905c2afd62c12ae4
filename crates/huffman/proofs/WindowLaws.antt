-- Eight bits that lie in two bytes. Assumes nothing.
use Prim.Native.Nat.{ℕ, zero, suc, ◌+◌, ◌-◌, ◌*◌, ◌/◌, ◌%◌, ◌^◌, ◌≤◌, ◌<◌}
use mathlib.Core.Path.{◌≡◌, refl, sym, ap, ◌∙◌}
use mathlib.Core.List.{List}
use mathlib.Core.Logic.{by_cases}
use native.Mathlib.Omega.{arith}
use native.Mathlib.Nat.{pow-suc, div-div-eq-div-mul}
use native.Mathlib.Decide.{dec_le}
use lib.ListN.{get_or}
use Rattle.wire.proofs.ByteLaws.{byte_in}
use Rattle.huffman.specs.Bits.{bytes_in, bit_at, bits_at, octet_at}
use Rattle.huffman.proofs.BitLaws.{bit_in, bit_there, octet_in}

-- a fact about a number below eight
eight : (P : ℕ → Type 0) → P 0 → P 1 → P 2 → P 3 → P 4 → P 5 → P 6 → P 7 → (s : ℕ) → s < 8 → P s
eight P a b c d e f g h zero k = a
eight P a b c d e f g h (suc zero) k = b
eight P a b c d e f g h (suc (suc zero)) k = c
eight P a b c d e f g h (suc (suc (suc zero))) k = d
eight P a b c d e f g h (suc (suc (suc (suc zero)))) k = e
eight P a b c d e f g h (suc (suc (suc (suc (suc zero))))) k = f
eight P a b c d e f g h (suc (suc (suc (suc (suc (suc zero)))))) k = g
eight P a b c d e f g h (suc (suc (suc (suc (suc (suc (suc zero))))))) k = h
eight P a b c d e f g h (suc (suc (suc (suc (suc (suc (suc (suc s)))))))) k = absurd (omega arith)

-- a bit of the first byte, and of the second

low : (a b s : ℕ) → s < 8 → (a + 256 * b) / 2 ^ s % 2 ≡ a / 2 ^ s % 2
low a b =
    eight (λ (s : ℕ). (a + 256 * b) / 2 ^ s % 2 ≡ a / 2 ^ s % 2)
    (omega arith) (omega arith) (omega arith) (omega arith) (omega arith) (omega arith) (omega arith) (omega arith)

high : (a b s : ℕ) → a < 256 → s < 8 → (a + 256 * b) / 2 ^ (s + 8) % 2 ≡ b / 2 ^ s % 2
high a b s k =
    eight (λ (s : ℕ). (a + 256 * b) / 2 ^ (s + 8) % 2 ≡ b / 2 ^ s % 2)
    (omega arith) (omega arith) (omega arith) (omega arith) (omega arith) (omega arith) (omega arith) (omega arith) s

-- the n lowest bits of a number, one by one
unfoldable lowest : ℕ → ℕ → ℕ
lowest zero d = 0
lowest (suc n) d = d % 2 + 2 * lowest n (d / 2)

lowest_eight : (d : ℕ) → lowest 8 d ≡ d % 256
unfolding lowest
lowest_eight d =
    let a : ℕ = d / 2 in
    let b : ℕ = a / 2 in
    let e : ℕ = b / 2 in
    let f : ℕ = e / 2 in
    let g : ℕ = f / 2 in
    let h : ℕ = g / 2 in
    let i : ℕ = h / 2 in
    omega arith

module _ (c : List ℕ) (j : ℕ) (h : j + 1 < bytes_in c) where
  -- the two bytes as one number
  abbrev pair : ℕ
  pair = get_or c j 0 + 256 * get_or c (j + 1) 0

  bit_of_lem : (s : ℕ) → s < 16 → get_or c j 0 < 256 → bit_at c (8 * j + s) ≡ pair / 2 ^ s % 2
  bit_of_lem s k l = by_cases (dec_le 8 s) (λ m. second m) (λ m. first (omega arith))
    where
      first : s < 8 → bit_at c (8 * j + s) ≡ pair / 2 ^ s % 2
      first m =
          let q : (8 * j + s) / 8 ≡ j = omega arith in
          let r : (8 * j + s) % 8 ≡ s = omega arith in
          bit_in c (8 * j + s) (omega arith) ∙ rw (q, r, sym (byte_in c j)) (sym (low (get_or c j 0) (get_or c (j + 1) 0) s m))

      second : 8 ≤ s → bit_at c (8 * j + s) ≡ pair / 2 ^ s % 2
      second m =
          let q : (8 * j + s) / 8 ≡ j + 1 = omega arith in
          let r : (8 * j + s) % 8 ≡ s - 8 = omega arith in
          let z : s - 8 + 8 ≡ s = omega arith in
          bit_in c (8 * j + s) (omega arith) ∙ rw (q, r, sym (byte_in c (j + 1)))
          (sym (high (get_or c j 0) (get_or c (j + 1) 0) (s - 8) l (omega arith)) ∙ rw z)

  half : (s : ℕ) → pair / 2 ^ suc s ≡ pair / 2 ^ s / 2
  half s = ap (λ (n : ℕ). pair / n) (pow-suc 2 s) ∙ sym (div-div-eq-div-mul pair (2 ^ s) 2)

  bits_of : (n s : ℕ) → s + n ≤ 16 → get_or c j 0 < 256 → bits_at c (8 * j + s) n ≡ lowest n (pair / 2 ^ s)
  unfolding bits_at lowest
  bits_of zero s k l = refl
  bits_of (suc n) s k l =
      let z : 8 * j + s + 1 ≡ 8 * j + suc s = omega arith in
      rw (z, bits_of n (suc s) (omega arith) l, bit_of_lem s (omega arith) l, half s)

  pub octet_of : (i : ℕ) → i / 8 ≡ j → get_or c j 0 < 256 → pair / 2 ^ (i % 8) % 256 ≡ octet_at c i
  octet_of i q l =
      let e : 8 * j + i % 8 ≡ i = omega arith in
      let p : (i + 7) / 8 ≤ j + 1 = omega arith in
      let b : bit_at c (i + 7) < 2 = bit_there c (i + 7) (omega arith) in
      sym (octet_in c i b ∙ sym (ap (λ (m : ℕ). bits_at c m 8) e) ∙ bits_of 8 (i % 8) (omega arith) l ∙ lowest_eight (pair / 2 ^ (i % 8)))

pub octet_told :
    (c : List ℕ) (i : ℕ) → i / 8 + 1 < bytes_in c → get_or c (i / 8) 0 < 256 →
    ((get_or c (i / 8) 0 + 256 * get_or c (i / 8 + 1) 0) / 2 ^ (i % 8) % 256 ≡ octet_at c i)
    × ((get_or c (i / 8) 0 + 256 * get_or c (i / 8 + 1) 0) / 2 ^ (i % 8) % 256 ≤ 256)
octet_told c i h l =
    let d : ℕ = (get_or c (i / 8) 0 + 256 * get_or c (i / 8 + 1) 0) / 2 ^ (i % 8) in
    (octet_of c (i / 8) h i refl l, (let m : d % 256 ≤ 256 = omega arith in m))
