-- The loop of the checksum: bytes that are taken together, as one number. Assumes nothing.
use Prim.Native.Nat.{ℕ, zero, suc, ◌+◌, ◌*◌, ◌≤◌, ◌<◌}
use native.Mathlib.Omega.{arith}
use mathlib.Core.Path.{◌≡◌, refl, sym, ap, ap₂, ◌∙◌}
use mathlib.Core.List.{List, [], ◌∷◌, ◌++◌}
use Rattle.std.specs.Int.{w64, from_le_bytes}
use Rattle.std.specs.Simd.{first_chunks}
use Rattle.wire.proofs.StdLaws.{le_number_8}
use lib.ListN.{length, get_or, take, drop, drop_of_length-le, take-append-drop}
use lib.Seq.{drop-drop}
use lib.Bits.{bit_xor, xor_zero_r}
use Rattle.wire.specs.Bytes.{Bytes, byte_at, part, number, number_at}
use Rattle.wire.proofs.ByteLaws.{bytes_tail, bytes_drop, bytes_part, part_in, part_length, number_one}
use Rattle.crc32c.specs.Crc.{crc_byte, crc_over, crc_of}
use Rattle.crc32c.specs.inner.Ahead.{over_bits, crc_from}
use Rattle.crc32c.proofs.Linear.{bits_add, byte_number}

-- bytes, as their number and as many bits of zero
over_number : (s : List ℕ) (c : ℕ) → Bytes s → over_bits (8 * length s) (bit_xor c (number s)) ≡ crc_over c s
unfolding over_bits crc_over number
over_number [] c w = xor_zero_r c
over_number (b ∷ bs) c w =
    let e : 8 * suc (length bs) ≡ 8 + 8 * length bs = omega arith in
    ap (λ (m : ℕ). over_bits m (bit_xor c (b + 256 * number bs))) e
    ∙ bits_add 8 (8 * length bs) (bit_xor c (b + 256 * number bs))
    ∙ ap (over_bits (8 * length bs)) (byte_number c b (number bs) (w.small 0))
    ∙ over_number bs (crc_byte c b) (bytes_tail b bs w)

over_append : (x y : List ℕ) (c : ℕ) → crc_over c (x ++ y) ≡ crc_over (crc_over c x) y
unfolding crc_over
over_append [] y c = refl
over_append (b ∷ x) y c = over_append x y (crc_byte c b)

pub from_start : (c : ℕ) (s : List ℕ) → crc_from c s 0 ≡ crc_over c s
unfolding crc_from
from_start c s = refl

-- n bytes more, taken as one number
from_more : (n c : ℕ) (s : List ℕ) (i x : ℕ) → Bytes s → i + n ≤ length s → x ≡ over_bits (8 * n) (bit_xor c (number_at n s i)) → crc_from x s (i + n) ≡ crc_from c s i
unfolding crc_from number_at
from_more n c s i x w h e =
    ap (λ (y : ℕ). crc_over y (drop (i + n) s))
    (e ∙ ap (λ (m : ℕ). over_bits (8 * m) (bit_xor c (number (part s i n)))) (sym (part_length s i n h)) ∙ over_number (part s i n) c (bytes_part i n w))
    ∙ sym (over_append (part s i n) (drop (i + n) s) c)
    ∙ ap (crc_over c) (ap₂ (λ (x y : List ℕ). x ++ y) (part_in s i n h) (sym (drop-drop n i s)) ∙ take-append-drop n (drop i s))

pub from_one :
    (c : ℕ) (s : List ℕ) (i x n : ℕ) → x ≡ over_bits 8 (bit_xor c (byte_at s i)) → n ≡ i + 1 → Bytes s → i < length s → crc_from x s n ≡ crc_from c s i
from_one c s i x n f g w h =
    ap (crc_from x s) g ∙ from_more 1 c s i x w (omega arith) (f ∙ ap (λ (y : ℕ). over_bits 8 (bit_xor c y)) (number_one s i))

pub from_eight :
    (c : ℕ) (s : List ℕ) (i v x n : ℕ) → v ≡ number_at 8 s i → x ≡ over_bits 64 (bit_xor c v) → n ≡ i + 8 → Bytes s → i + 8 ≤ length s →
    crc_from x s n ≡ crc_from c s i
from_eight c s i v x n e f g w h =
    ap (crc_from x s) g ∙ from_more 8 c s i x w h (f ∙ ap (λ (y : ℕ). over_bits 64 (bit_xor c y)) e)

pub from_all : (c : ℕ) (s : List ℕ) (i : ℕ) → crc_from c s i ≡ crc_over 0xFFFF_FFFF s → length s ≤ i → bit_xor c 0xFFFF_FFFF ≡ crc_of s
unfolding crc_of crc_from crc_over
from_all c s i e h = ap (λ (x : ℕ). bit_xor x 0xFFFF_FFFF) (sym (ap (crc_over c) (drop_of_length-le s h)) ∙ e)

-- the i-th eight bytes, and what is behind all eights

chunk : (k : ℕ) (s : List ℕ) (d : List ℕ) (i : ℕ) → i < k → get_or (first_chunks 8 k s) i d ≡ take 8 (drop (8 * i) s)
chunk zero s d i h = absurd (omega arith)
chunk (suc k) s d zero h = refl
chunk (suc k) s d (suc i) h =
    let e : 8 + 8 * i ≡ 8 * suc i = omega arith in
    chunk k (drop 8 s) d i (omega arith) ∙ ap (take 8) (drop-drop (8 * i) 8 s ∙ ap (λ (m : ℕ). drop m s) e)

pub from_chunk :
    (c : ℕ) (s : List ℕ) (f : List (List ℕ)) (k : ℕ) (d : List ℕ) (i u v x : ℕ) → Bytes s → f ≡ first_chunks 8 k s → i < k → 8 * k ≤ length s → u ≡ c →
    v ≡ from_le_bytes w64 (get_or f i d) → x ≡ over_bits 64 (bit_xor u v) → crc_from x s (8 * (i + 1)) ≡ crc_from c s (8 * i)
unfolding number_at
from_chunk c s f k d i u v x w p h l q e g =
    let at : 8 * i + 8 ≤ length s = omega arith in
    let b : get_or f i d ≡ part s (8 * i) 8 = ap (λ (t : List (List ℕ)). get_or t i d) p ∙ chunk k s d i h ∙ sym (part_in s (8 * i) 8 at) in
    from_eight c s (8 * i) v x (8 * (i + 1)) (e ∙ le_number_8 (get_or f i d) (ap length b ∙ part_length s (8 * i) 8 at) ∙ ap number b)
    (g ∙ ap (λ (y : ℕ). over_bits 64 (bit_xor y v)) q) (omega arith) w at

pub from_rest : (c : ℕ) (s r : List ℕ) (i k y : ℕ) → r ≡ drop (k * 8) s → i ≡ k → crc_from c s (8 * i) ≡ y → crc_from c r 0 ≡ y
unfolding crc_from
from_rest c s r i k y p e q = let m : k * 8 ≡ 8 * i = omega arith in ap (crc_over c) (p ∙ ap (λ (n : ℕ). drop n s) m) ∙ q

pub from_byte : (c : ℕ) (s r : List ℕ) (k i b x : ℕ) → Bytes s → r ≡ drop k s → i < length r → b ≡ byte_at r i → x ≡ over_bits 8 (bit_xor c b) → crc_from x r (i + 1) ≡ crc_from c r i
from_byte c s r k i b x w p h e g =
    from_one c r i x (i + 1) (g ∙ ap (λ (y : ℕ). over_bits 8 (bit_xor c y)) e) refl (rw p (bytes_drop k w)) h

pub from_done : (c : ℕ) (s r : List ℕ) (i : ℕ) → crc_from c r i ≡ crc_over 0xFFFF_FFFF s → length r ≤ i → bit_xor c 0xFFFF_FFFF ≡ crc_of s
unfolding crc_of crc_from crc_over
from_done c s r i e h = ap (λ (x : ℕ). bit_xor x 0xFFFF_FFFF) (sym (ap (crc_over c) (drop_of_length-le r h)) ∙ e)
