-- Bits of the CRC are linear under exclusive or, so what they push out of a state is told by tables, each for some bits.
-- Assumes nothing.
use Prim.Native.Nat.{ℕ, zero, suc, ◌+◌, ◌*◌, ◌/◌, ◌%◌, ◌^◌, ◌<◌}
use native.Mathlib.Nat.{div-add-mod', mod-lt, zero-add, suc-add}
use native.Mathlib.Omega.{arith}
use mathlib.Core.Path.{◌≡◌, refl, sym, ap, ap₂, ◌∙◌}
use lib.Arith.{bin_ind}
use lib.Pow.{pow_pos}
use lib.Dec.{eqb}
use lib.Bits.{bit_xor, differ, xor_step, xor_shr, xor_comm, xor_self, xor_shifted, shifted_half, shifted_even}
use Rattle.wire.specs.Pick.{pick}
use Rattle.crc32c.specs.Crc.{polynomial, crc_bit, crc_byte}
use Rattle.crc32c.specs.inner.Ahead.{over_bits}

-- ---- exclusive or is associative
differ_assoc : (x y z : ℕ) → x < 2 → y < 2 → z < 2 → differ (differ x y) z ≡ differ x (differ y z)
differ_assoc zero y z hx hy hz = refl
differ_assoc (suc zero) zero z hx hy hz = refl
differ_assoc (suc zero) (suc zero) zero hx hy hz = refl
differ_assoc (suc zero) (suc zero) (suc zero) hx hy hz = refl
differ_assoc (suc zero) (suc zero) (suc (suc z)) hx hy hz = absurd (omega arith)
differ_assoc (suc zero) (suc (suc y)) z hx hy hz = absurd (omega arith)
differ_assoc (suc (suc x)) y z hx hy hz = absurd (omega arith)

differ_lt : (x y : ℕ) → x < 2 → y < 2 → differ x y < 2
differ_lt zero y hx hy = hy
differ_lt (suc x) zero hx hy = hx
differ_lt (suc zero) (suc zero) hx hy = omega arith
differ_lt (suc zero) (suc (suc y)) hx hy = absurd (omega arith)
differ_lt (suc (suc x)) (suc y) hx hy = absurd (omega arith)

xor_odd : (a b : ℕ) → bit_xor a b % 2 ≡ differ (a % 2) (b % 2)
xor_odd a b = omega (arith, xor_step a b, differ_lt (a % 2) (b % 2) (omega arith) (omega arith))

pub xor_assoc : (a b c : ℕ) → bit_xor (bit_xor a b) c ≡ bit_xor a (bit_xor b c)
xor_assoc =
    bin_ind (λ (n : ℕ). (b c : ℕ) → bit_xor (bit_xor n b) c ≡ bit_xor n (bit_xor b c)) (λ b c. refl)
    (λ n ih b c. xor_step (bit_xor n b) c
    ∙ ap₂ (λ (x y : ℕ). x * 2 + y)
    (ap (λ (x : ℕ). bit_xor x (c / 2)) (xor_shr n b 1) ∙ ih (b / 2) (c / 2) ∙ ap (bit_xor (n / 2)) (sym (xor_shr b c 1)))
    (ap (λ (x : ℕ). differ x (c % 2)) (xor_odd n b) ∙ differ_assoc (n % 2) (b % 2) (c % 2) (omega arith) (omega arith) (omega arith) ∙ ap (differ (n % 2)) (sym (xor_odd b c)))
    ∙ sym (xor_step n (bit_xor b c)))

-- what is on both sides falls out
xor_twice : (a b p : ℕ) → bit_xor (bit_xor a p) (bit_xor b p) ≡ bit_xor a b
xor_twice a b p =
    xor_assoc a p (bit_xor b p)
    ∙ ap (bit_xor a) (ap (bit_xor p) (xor_comm b p) ∙ sym (xor_assoc p p b) ∙ ap (λ (x : ℕ). bit_xor x b) (xor_self p))

-- ---- one bit is linear
bit_xor_lem : (a b : ℕ) → crc_bit (bit_xor a b) ≡ bit_xor (crc_bit a) (crc_bit b)
unfolding crc_bit
bit_xor_lem a b = rw (xor_odd a b, xor_shr a b 1) (go (a % 2) (b % 2) (omega arith) (omega arith))
  where
    go :
        (x y : ℕ) → x < 2 → y < 2 →
        pick (eqb (differ x y) 1) (bit_xor (bit_xor (a / 2) (b / 2)) polynomial) (bit_xor (a / 2) (b / 2)) ≡
        bit_xor (pick (eqb x 1) (bit_xor (a / 2) polynomial) (a / 2)) (pick (eqb y 1) (bit_xor (b / 2) polynomial) (b / 2))
    go zero zero h k = refl
    go zero (suc zero) h k = xor_assoc (a / 2) (b / 2) polynomial
    go (suc zero) zero h k = xor_assoc (a / 2) (b / 2) polynomial ∙ ap (bit_xor (a / 2)) (xor_comm (b / 2) polynomial) ∙ sym (xor_assoc (a / 2) polynomial (b / 2))
    go (suc zero) (suc zero) h k = sym (xor_twice (a / 2) (b / 2) polynomial)
    go zero (suc (suc y)) h k = absurd (omega arith)
    go (suc zero) (suc (suc y)) h k = absurd (omega arith)
    go (suc (suc x)) y h k = absurd (omega arith)

-- ---- n bits are, and push the rest down
pub bits_xor : (n a b : ℕ) → over_bits n (bit_xor a b) ≡ bit_xor (over_bits n a) (over_bits n b)
unfolding over_bits
bits_xor zero a b = refl
bits_xor (suc n) a b = ap (over_bits n) (bit_xor_lem a b) ∙ bits_xor n (crc_bit a) (crc_bit b)

pub bits_shifted : (k h : ℕ) → over_bits k (h * 2 ^ k) ≡ h
unfolding over_bits crc_bit
bits_shifted zero h = omega arith
bits_shifted (suc k) h = rw (shifted_even h k, shifted_half h k) (bits_shifted k h)

pub bits_add : (k n c : ℕ) → over_bits (k + n) c ≡ over_bits n (over_bits k c)
unfolding over_bits
bits_add zero n c = ap (λ (m : ℕ). over_bits m c) (zero-add n)
bits_add (suc k) n c = ap (λ (m : ℕ). over_bits m c) (suc-add k n) ∙ bits_add k n (crc_bit c)

-- ---- the k lowest bits, which a table tells, and the rest k bits less far
pub lowest : (k n x : ℕ) → over_bits (k + n) x ≡ bit_xor (over_bits (k + n) (x % 2 ^ k)) (over_bits n (x / 2 ^ k))
lowest k n x =
    let l : x % 2 ^ k < 2 ^ k = mod-lt x (pow_pos k) in
    ap (over_bits (k + n)) (sym (div-add-mod' x (2 ^ k)) ∙ sym (xor_shifted (x / 2 ^ k) k (x % 2 ^ k) l) ∙ xor_comm (x / 2 ^ k * 2 ^ k) (x % 2 ^ k))
    ∙ bits_xor (k + n) (x % 2 ^ k) (x / 2 ^ k * 2 ^ k)
    ∙ ap (bit_xor (over_bits (k + n) (x % 2 ^ k))) (bits_add k n (x / 2 ^ k * 2 ^ k) ∙ ap (over_bits n) (bits_shifted k (x / 2 ^ k)))

-- a table, and what it leaves
pub by_table : (k n x t : ℕ) → t ≡ over_bits (k + n) (x % 2 ^ k) → bit_xor t (over_bits n (x / 2 ^ k)) ≡ over_bits (k + n) x
by_table k n x t e = ap (λ (y : ℕ). bit_xor y (over_bits n (x / 2 ^ k))) e ∙ sym (lowest k n x)

-- and what tells that
pub joined : (a r z m n : ℕ) → bit_xor a m ≡ n → bit_xor r z ≡ m → bit_xor (bit_xor a r) z ≡ n
joined a r z m n e f = xor_assoc a r z ∙ ap (bit_xor a) f ∙ e

pub more : (k n x t r z : ℕ) → t ≡ over_bits (k + n) (x % 2 ^ k) → bit_xor r z ≡ over_bits n (x / 2 ^ k) → bit_xor (bit_xor t r) z ≡ over_bits (k + n) x
more k n x t r z e f = joined t r z (over_bits n (x / 2 ^ k)) (over_bits (k + n) x) (by_table k n x t e) f

-- ---- a byte, and a number above it
pub byte_number : (c b h : ℕ) → b < 256 → over_bits 8 (bit_xor c (b + 256 * h)) ≡ bit_xor (crc_byte c b) h
unfolding over_bits crc_byte
byte_number c b h l =
    let e : b + 256 * h ≡ h * 2 ^ 8 + b = omega arith in
    ap (over_bits 8) (ap (bit_xor c) (e ∙ sym (xor_shifted h 8 b l) ∙ xor_comm (h * 2 ^ 8) b) ∙ sym (xor_assoc c b (h * 2 ^ 8)))
    ∙ bits_xor 8 (bit_xor c b) (h * 2 ^ 8)
    ∙ ap (bit_xor (crc_byte c b)) (bits_shifted 8 h)
