-- Bits of a content, and numbers of several bits. Assumes nothing.
use Prim.Native.Nat.{ℕ, zero, suc, ◌+◌, ◌-◌, ◌*◌, ◌/◌, ◌%◌, ◌^◌, ◌≤◌, ◌<◌}
use mathlib.Core.Path.{◌≡◌, refl, sym, ◌∙◌}
use mathlib.Core.List.{List}
use mathlib.Core.Logic.{by_cases}
use native.Mathlib.Omega.{arith}
use native.Mathlib.Nat.{pow-suc}
use native.Mathlib.Decide.{dec_le}
use lib.ListN.{get_or}
use lib.Pow.{pow_mono}
use borrow.Author.Tests.{le-leb, lt-leb, eq-eqb, ne_eqb}
use Rattle.wire.specs.Bytes.{byte_at}
use Rattle.wire.proofs.ByteLaws.{byte_in}
use Rattle.huffman.specs.Bits.{bytes_in, bits_in, bit_at, bits_at, octet_at}

module _ (c : List ℕ) where
  pub bit_out : (i : ℕ) → bytes_in c ≤ i / 8 → bit_at c i ≡ 2
  unfolding bit_at
  bit_out i h = rw (le-leb (bytes_in c) (i / 8) h)

  pub bit_in : (i : ℕ) → i / 8 < bytes_in c → bit_at c i ≡ byte_at c (i / 8) / 2 ^ (i % 8) % 2
  unfolding bit_at
  bit_in i h = rw (lt-leb (bytes_in c) (i / 8) h)

  pub bit_small : (i : ℕ) → bit_at c i ≤ 2
  bit_small i =
      by_cases (dec_le (bytes_in c) (i / 8)) (λ h. omega (arith, bit_out i h))
      (λ n. let b : ℕ = byte_at c (i / 8) / 2 ^ (i % 8) in let e : bit_at c i ≡ b % 2 = bit_in i (omega arith) in omega arith)

  -- a bit that is there

  pub there : (i : ℕ) → bit_at c i < 2 → i / 8 < bytes_in c
  there i h = by_cases (dec_le (bytes_in c) (i / 8)) (λ k. let e : bit_at c i ≡ 2 = bit_out i k in absurd (omega arith)) (λ n. omega arith)

  pub bit_near : (i : ℕ) → bit_at c i < 2 → i < bits_in
  bit_near i h = omega (arith, there i h)

  pub bit_there : (i : ℕ) → i / 8 < bytes_in c → bit_at c i < 2
  bit_there i h = let b : ℕ = byte_at c (i / 8) / 2 ^ (i % 8) in let e : bit_at c i ≡ b % 2 = bit_in i h in omega arith

  -- is so where one behind it is
  pub bit_before : (i j : ℕ) → i ≤ j → bit_at c j < 2 → bit_at c i < 2
  bit_before i j h k = let l : j / 8 < bytes_in c = there j k in bit_there i (omega arith)

  -- what is told of a bit

  pub bit_none : (i : ℕ) → bytes_in c ≤ i / 8 → (2 ≡ bit_at c i) × ((2 ≤ 2) × (2 < 2 → i < bits_in))
  bit_none i h = (sym (bit_out i h), (omega arith, λ l. absurd (omega arith)))

  pub bit_some :
      (i : ℕ) → i / 8 < bytes_in c →
      (get_or c (i / 8) 0 / 2 ^ (i % 8) % 2 ≡ bit_at c i) × ((get_or c (i / 8) 0 / 2 ^ (i % 8) % 2 ≤ 2) × (get_or c (i / 8) 0 / 2 ^ (i % 8) % 2 < 2 → i < bits_in))
  bit_some i h =
      let b : ℕ = get_or c (i / 8) 0 / 2 ^ (i % 8) in
      (rw (byte_in c (i / 8)) (sym (bit_in i h)), (let l : b % 2 ≤ 2 = omega arith in l, λ l. omega arith))

  -- numbers of n bits

  bits_bound : (n i : ℕ) → bits_at c i n + 2 ≤ 2 * 2 ^ n
  unfolding bits_at
  bits_bound zero i = omega arith
  bits_bound (suc n) i =
      let e : 2 ^ suc n ≡ 2 ^ n * 2 = pow-suc 2 n in
      omega (arith, bit_small i, bits_bound n (i + 1))

  pub bits_few : (n i : ℕ) → n ≤ 8 → bits_at c i n ≤ 510
  bits_few n i h = let p : 2 ^ n ≤ 2 ^ 8 = pow_mono h in omega (arith, bits_bound n i)

  pub bits_small : (n i : ℕ) → ((k : ℕ) → k < n → bit_at c (i + k) < 2) → bits_at c i n < 2 ^ n
  unfolding bits_at
  bits_small zero i f = omega arith
  bits_small (suc n) i f =
      let e : 2 ^ suc n ≡ 2 ^ n * 2 = pow-suc 2 n in
      let z : i + 0 ≡ i = omega arith in
      let b : bit_at c i < 2 = rw z at (f 0 (omega arith)) in
      omega (arith, bits_small n (i + 1) (λ k h. let y : i + 1 + k ≡ i + suc k = omega arith in rw y (f (suc k) (omega arith))))

  -- symbols

  pub octet_out : (i : ℕ) → bit_at c (i + 7) ≡ 2 → octet_at c i ≡ 256
  unfolding octet_at
  octet_out i h = rw (eq-eqb (bit_at c (i + 7)) 2 h)

  pub octet_in : (i : ℕ) → bit_at c (i + 7) < 2 → octet_at c i ≡ bits_at c i 8
  unfolding octet_at
  octet_in i h = rw (ne_eqb (bit_at c (i + 7)) 2 (λ q. omega arith))

  pub octet_bits : (i : ℕ) → bit_at c (i + 7) < 2 → bits_at c i 8 < 256
  octet_bits i h = bits_small 8 i (λ k l. bit_before (i + k) (i + 7) (omega arith) h)

  -- a symbol's last bit is there
  pub octet_there : (i : ℕ) → (octet_at c i ≡ 256 → ⊥) → bit_at c (i + 7) < 2
  octet_there i n =
      by_cases (dec_le 2 (bit_at c (i + 7))) (λ h. absurd (n (octet_out i (omega (arith, bit_small (i + 7)))))) (λ f. omega arith)

  pub octet_small : (i : ℕ) → (octet_at c i ≡ 256 → ⊥) → octet_at c i < 256
  octet_small i n = let h : bit_at c (i + 7) < 2 = octet_there i n in omega (arith, octet_in i h, octet_bits i h)

  -- a loop from the highest of eight bits to the lowest

  pub octet_start : (i : ℕ) → 0 ≡ bits_at c (i + 8) (8 - 8)
  unfolding bits_at
  octet_start i = refl

  pub octet_more :
      (i k v b : ℕ) → 0 < k → k ≤ 8 → v ≡ bits_at c (i + k) (8 - k) → b ≡ bit_at c (i + (k - 1)) → b + 2 * v ≡ bits_at c (i + (k - 1)) (8 - (k - 1))
  unfolding bits_at
  octet_more i k v b h l e f =
      let m : 8 - (k - 1) ≡ suc (8 - k) = omega arith in
      let n : i + (k - 1) + 1 ≡ i + k = omega arith in
      rw (m, n, e, f)

  pub octet_end : (i k v : ℕ) → k ≤ 0 → v ≡ bits_at c (i + k) (8 - k) → bit_at c (i + 7) < 2 → (v ≡ octet_at c i) × (v ≤ 256)
  octet_end i k v h e b =
      let z : k ≡ 0 = omega arith in
      let y : i + 0 ≡ i = omega arith in
      let f : v ≡ bits_at c i 8 = e ∙ rw (z, y) in
      (f ∙ sym (octet_in i b), omega (arith, octet_bits i b))
