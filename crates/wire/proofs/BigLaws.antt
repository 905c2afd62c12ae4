-- Numbers with their highest byte first: one law over the width for each thing that is said of them. Assumes nothing.
use Prim.Native.Nat.{ℕ, zero, suc, ◌+◌, ◌*◌, ◌/◌, ◌%◌, ◌^◌, ◌≤◌, ◌<◌}
use mathlib.Core.Path.{◌≡◌, refl, sym, ap, ◌∙◌}
use mathlib.Core.List.{List, [], ◌∷◌, ◌++◌, append_assoc, append-nil}
use mathlib.Core.Logic.{by_cases}
use native.Mathlib.Decide.{dec_le}
use native.Mathlib.Omega.{arith}
use native.Mathlib.Nat.{pow-suc, mul_assoc, mul_comm, mul-le-mul_right, mul-add-div_right, div-eq_of_lt, div-div-eq-div-mul}
use lib.ListN.{length, length-append}
use Rattle.wire.specs.Bytes.{Bytes, byte_at, part, put, number, number_at}
use Rattle.wire.specs.Big.{big_from, big_at, big_of}
use Rattle.wire.proofs.ByteLaws.{part_whole, part_out, part_length, part_split, part_behind, part_before, bytes_none, bytes_cons, bytes_append, bytes_tail, bytes_part, number_one}
use Rattle.wire.proofs.PutLaws.{put_not, put_put}

-- the number of bytes, and of two lists of them in a row

pub big_append : (c : ℕ) (x y : List ℕ) → big_from c (x ++ y) ≡ big_from (big_from c x) y
unfolding big_from
big_append c [] y = refl
big_append c (b ∷ x) y = big_append (256 * c + b) x y

pub big_higher : (c : ℕ) (s : List ℕ) → big_from c s ≡ c * 256 ^ length s + big_from 0 s
unfolding big_from
big_higher c [] = omega arith
big_higher c (b ∷ bs) =
    let e : 256 ^ suc (length bs) ≡ 256 ^ length bs * 256 = pow-suc 256 (length bs) in
    let f : c * (256 ^ length bs * 256) ≡ 256 * c * 256 ^ length bs = rw (mul_comm (256 ^ length bs) 256, ← mul_assoc c 256 (256 ^ length bs), mul_comm c 256) in
    rw (big_higher (256 * c + b) bs, big_higher (256 * 0 + b) bs, e, f) (omega arith)

-- bytes make a number of that many

big_less : (s : List ℕ) → Bytes s → big_from 0 s < 256 ^ length s
unfolding big_from
big_less [] b = omega arith
big_less (x ∷ xs) b =
    let e : 256 ^ suc (length xs) ≡ 256 ^ length xs * 256 = pow-suc 256 (length xs) in
    let m : x * 256 ^ length xs ≤ 255 * 256 ^ length xs = mul-le-mul_right (256 ^ length xs) (omega (arith, b.small 0)) in
    let z : 256 * 0 + x ≡ x = omega arith in
    rw (z, big_higher x xs, e) (omega (arith, big_less xs (bytes_tail x xs b)))

power : (k : ℕ) → 0 < 256 ^ k
power zero = omega arith
power (suc k) = let e : 256 ^ suc k ≡ 256 ^ k * 256 = pow-suc 256 k in omega (arith, power k)

-- numbers at a place

module _ (w : ℕ) (s : List ℕ) (at : ℕ) where
  pub big_out : length s < at + w → 0 ≡ big_at w s at
  unfolding big_at big_from
  big_out h = rw (part_out s at w h)

  pub big_small : Bytes s → big_at w s at < 256 ^ w
  unfolding big_at big_from
  big_small h =
      by_cases (dec_le (at + w) (length s)) (λ l. rw (part_length s at w l) at (big_less (part s at w) (bytes_part at w h)))
      (λ l. let e = part_out s at w (omega arith) in rw e (power w))

pub big_split :
    (a b : ℕ) (s : List ℕ) (at x y : ℕ) → at + (a + b) ≤ length s → x ≡ big_at a s at → y ≡ big_at b s (at + a) →
    256 ^ b * x + y ≡ big_at (a + b) s at
unfolding big_at
big_split a b s at x y h p q =
    rw (p, q, part_split s at a b h, big_append, big_higher (big_from 0 (part s at a)) (part s (at + a) b), part_length s (at + a) b (omega arith), mul_comm (256 ^ b))

pub big_byte : (s : List ℕ) (at x : ℕ) → x ≡ byte_at s at → x ≡ big_at 1 s at
unfolding number_at number big_at big_from
big_byte s at x e = e ∙ number_one s at ∙ go (part s at 1) (few at)
  where
    few : (at : ℕ) → length (part s at 1) ≤ 1
    few at = by_cases (dec_le (at + 1) (length s)) (λ l. omega (arith, part_length s at 1 l)) (λ l. rw (part_out s at 1 (omega arith)) (omega arith))

    go : (l : List ℕ) → length l ≤ 1 → number l ≡ big_from 0 l
    go [] h = refl
    go (b ∷ []) h = omega arith
    go (b ∷ c ∷ l) h = absurd (omega arith)

-- in two lists in a row

pub big_behind : (w : ℕ) (a s : List ℕ) (at : ℕ) → big_at w (a ++ s) (length a + at) ≡ big_at w s at
unfolding big_at
big_behind w a s at = ap (big_from 0) (part_behind a s at w)

pub big_before : (w : ℕ) (s b : List ℕ) (at : ℕ) → at + w ≤ length s → big_at w (s ++ b) at ≡ big_at w s at
unfolding big_at
big_before w s b at h = ap (big_from 0) (part_before s b at w h)

-- the bytes of a number

pub big_length : (w v : ℕ) → length (big_of w v) ≡ w
unfolding big_of
big_length zero v = refl
big_length (suc w) v = length-append (big_of w (v / 256)) (v % 256 ∷ []) ∙ omega (arith, big_length w (v / 256))

pub big_bytes : (w v : ℕ) → Bytes (big_of w v)
unfolding big_of
big_bytes zero v = bytes_none
big_bytes (suc w) v = bytes_append (big_bytes w (v / 256)) (bytes_cons (v % 256) (omega arith) bytes_none)

-- those of a wider number are those of two narrower ones
pub big_halves : (a b v : ℕ) → big_of (a + b) v ≡ big_of a (v / 256 ^ b) ++ big_of b v
unfolding big_of
big_halves a zero v =
    let e : a + 0 ≡ a = omega arith in
    let f : v / 256 ^ 0 ≡ v = omega arith in
    rw (e, f) (sym (append-nil (big_of a v)))
big_halves a (suc b) v =
    let e : a + suc b ≡ suc (a + b) = omega arith in
    let p : v / 256 / 256 ^ b ≡ v / 256 ^ suc b = div-div-eq-div-mul v 256 (256 ^ b) ∙ ap (λ (n : ℕ). v / n) (mul_comm 256 (256 ^ b) ∙ sym (pow-suc 256 b)) in
    rw (e, ← p, big_halves a b (v / 256)) (append_assoc (big_of a (v / 256 / 256 ^ b)) (big_of b (v / 256)) (v % 256 ∷ []))

-- the number that bytes were made of

big_made : (c w v : ℕ) → v < 256 ^ w → big_from c (big_of w v) ≡ c * 256 ^ w + v
unfolding big_of big_from
big_made c zero v h = omega arith
big_made c (suc w) v h =
    let e : 256 ^ suc w ≡ 256 ^ w * 256 = pow-suc 256 w in
    let l : v / 256 < 256 ^ w = omega arith in
    let m : c * (256 ^ w * 256) ≡ c * 256 ^ w * 256 = sym (mul_assoc c (256 ^ w) 256) in
    rw (big_append c (big_of w (v / 256)) (v % 256 ∷ []), big_made c w (v / 256) l, e, m) (omega arith)

pub big_of_lem : (w v : ℕ) → v < 256 ^ w → big_at w (big_of w v) 0 ≡ v
unfolding big_at
big_of_lem w v h =
    let p : part (big_of w v) 0 w ≡ big_of w v = ap (part (big_of w v) 0) (sym (big_length w v)) ∙ part_whole (big_of w v) in
    ap (big_from 0) p ∙ big_made 0 w v h ∙ omega arith

-- and the bytes that a number was read from

of_big : (c : ℕ) (s : List ℕ) → Bytes s → big_of (length s) (big_from c s) ≡ s
unfolding big_of big_from
of_big c [] b = refl
of_big c (x ∷ xs) b =
    let k = 256 * c + x in
    let t = bytes_tail x xs b in
    let e : suc (length xs) ≡ 1 + length xs = omega arith in
    let z : big_from 0 xs / 256 ^ length xs ≡ 0 = div-eq_of_lt (big_less xs t) in
    let q : big_from k xs / 256 ^ length xs ≡ k = rw (big_higher k xs, mul-add-div_right (power (length xs)) k (big_from 0 xs), z) (omega arith) in
    let m : k % 256 ≡ x = omega (arith, b.small 0) in
    ap (λ (n : ℕ). big_of n (big_from k xs)) e ∙ big_halves 1 (length xs) (big_from k xs) ∙ rw (q, of_big k xs t, m)

pub big_part : (w : ℕ) (s : List ℕ) (at : ℕ) → Bytes s → at + w ≤ length s → big_of w (big_at w s at) ≡ part s at w
unfolding big_at
big_part w s at b h = rw (part_length s at w h) at (of_big 0 (part s at w) (bytes_part at w b))

-- a number put in two halves

pub big_put :
    (a b : ℕ) (d l l' : List ℕ) (at v x y : ℕ) → l ≡ put d at (big_of a x) → l' ≡ put l (at + a) (big_of b y) → at + (a + b) ≤ length d →
    big_of a x ≡ big_of a (v / 256 ^ b) → big_of b y ≡ big_of b v → l' ≡ put d at (big_of (a + b) v)
big_put a b d l l' at v x y p q h e f =
    let i = big_length a (v / 256 ^ b) in
    let j = big_length b v in
    let k : at + length (big_of a (v / 256 ^ b)) + length (big_of b v) ≤ length d = omega arith in
    let c : at + a ≡ at + length (big_of a (v / 256 ^ b)) = omega arith in
    q ∙ rw (p, e, f, c) (put_put d at (big_of a (v / 256 ^ b)) (big_of b v) k) ∙ ap (put d at) (sym (big_halves a b v))

pub big_one : (v x : ℕ) → x ≡ v % 256 → x ∷ [] ≡ big_of 1 v
unfolding big_of
big_one v x e = rw e

pub big_put_out : (w v : ℕ) (d : List ℕ) (at : ℕ) → length d < at + w → d ≡ put d at (big_of w v)
big_put_out w v d at h = sym (put_not d at (big_of w v) (omega (arith, big_length w v)))
