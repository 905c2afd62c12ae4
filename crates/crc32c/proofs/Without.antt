-- The checksum with some bytes read as zero. Assumes nothing.
use Prim.Native.Nat.{ℕ, ◌+◌, ◌-◌, ◌≤◌, ◌<◌}
use mathlib.Core.Path.{◌≡◌, sym, ap, ◌∙◌}
use mathlib.Core.List.{List, ◌∷◌}
use mathlib.Core.Logic.{inl, inr}
use native.Mathlib.Omega.{arith}
use native.Mathlib.Numerals.{add-one}
use lib.ListN.{length, get_or, drop, get_or-replicate}
use lib.Seq.{drop-cons}
use lib.Bits.{bit_xor}
use Rattle.wire.specs.Bytes.{byte_at, put, zeros}
use Rattle.wire.proofs.ByteLaws.{part_out, part_length, part_at_lem, zeros_length}
use Rattle.wire.proofs.PutLaws.{put_not, put_each_lem, put_outside, length_put}
use Rattle.crc32c.specs.Crc.{crc_byte, crc_over, crc_of, crc_part, crc_without}
use Rattle.crc32c.specs.inner.Ahead.{crc_from, byte_without, part_without}
use Rattle.crc32c.proofs.Loop.{from_all}

-- a byte

module _ (s : List ℕ) (from to i : ℕ) where
  pub without_outside : {r : ℕ} → r ≡ byte_at s i → length s < to → r ≡ byte_without s from to i
  unfolding byte_without
  without_outside e h =
      e ∙ ap (λ (l : List ℕ). byte_at l i) (sym (put_not s from (zeros (to - from)) (omega (arith, zeros_length (to - from)))))

  pub without_before : {r : ℕ} → r ≡ byte_at s i → i < from → r ≡ byte_without s from to i
  unfolding byte_without
  without_before e h = e ∙ put_outside s from (zeros (to - from)) i (inl h)

  pub without_behind : {r : ℕ} → r ≡ byte_at s i → from ≤ i → to ≤ i → r ≡ byte_without s from to i
  unfolding byte_without
  without_behind e h k = e ∙ put_outside s from (zeros (to - from)) i (inr (omega (arith, zeros_length (to - from))))

  pub without_within : to ≤ length s → from ≤ i → i < to → 0 ≡ byte_without s from to i
  unfolding byte_without zeros byte_at
  without_within l h k =
      let z = zeros_length (to - from) in
      let e : from + (i - from) ≡ i = omega arith in
      sym (get_or-replicate {A = ℕ} (to - from) (i - from) 0 0 (omega arith))
      ∙ sym (put_each_lem s from (zeros (to - from)) (i - from) (omega arith) (omega arith))
      ∙ ap (λ (j : ℕ). get_or (put s from (zeros (to - from))) j 0) e

-- the loop

module _ (s : List ℕ) (at n from to : ℕ) where
  pub without_out : length s < at + n → 0 ≡ crc_without s at n from to
  unfolding crc_without crc_part crc_of crc_over
  without_out h =
      ap (λ (l : List ℕ). bit_xor (crc_over 0xFFFF_FFFF l) 0xFFFF_FFFF)
      (sym (part_out (put s from (zeros (to - from))) at n (omega (arith, length_put s from (zeros (to - from))))))

  module _ (h : at + n ≤ length s) where
    long : length (part_without s at n from to) ≡ n
    unfolding part_without
    long = part_length (put s from (zeros (to - from))) at n (omega (arith, length_put s from (zeros (to - from))))

    pub without_more :
        (c i b x : ℕ) → b ≡ byte_without s from to (at + i) → x ≡ crc_byte c b → i < n →
        crc_from x (part_without s at n from to) (i + 1) ≡ crc_from c (part_without s at n from to) i
    unfolding crc_from crc_over part_without byte_without
    without_more c i b x e f k =
        let l = length_put s from (zeros (to - from)) in
        let p = part_without s at n from to in
        let d : drop i p ≡ get_or p i 0 ∷ drop (i + 1) p = rw (add-one i) (drop-cons p i 0 (omega (arith, long))) in
        let g : b ≡ get_or p i 0 = e ∙ sym (part_at_lem (put s from (zeros (to - from))) at n (omega arith) i k) in
        ap (λ (y : ℕ). crc_over y (drop (i + 1) p)) (f ∙ ap (crc_byte c) g) ∙ sym (ap (crc_over c) d)

    pub without_all :
        (c i : ℕ) → crc_from c (part_without s at n from to) i ≡ crc_over 0xFFFF_FFFF (part_without s at n from to) → n ≤ i →
        bit_xor c 0xFFFF_FFFF ≡ crc_without s at n from to
    unfolding crc_without crc_part part_without
    without_all c i e k = from_all c (part_without s at n from to) i e (omega (arith, long))
