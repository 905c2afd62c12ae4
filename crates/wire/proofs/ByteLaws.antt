-- Parts of a list and the numbers that stand in it. Assumes nothing.
use Prim.Native.Nat.{ℕ, min, zero, suc, ◌+◌, ◌*◌, ◌/◌, ◌%◌, ◌^◌, ◌-◌, ◌≤◌, ◌<◌}
use mathlib.Core.Path.{◌≡◌, refl, sym, ap, ◌∙◌}
use mathlib.Core.List.{List, [], ◌∷◌, ◌++◌}
use mathlib.Core.Bool.{Bool, true, false}
use native.Mathlib.Omega.{arith}
use native.Mathlib.Nat.{pow-suc, mul_assoc, mul_comm}
use mathlib.Core.Logic.{◌⊎◌, inl, inr, by_cases}
use native.Mathlib.Decide.{dec_le}
use lib.ListN.{length, get_or, take, drop, length-append, length-take, length-drop, get_or-eq_default, length-replicate, replicate-append-replicate}
use lib.Seq.{drop-append-add, drop-append-le, take-append-le, get_or-take, get_or-drop, ext_get_or, take-add, drop-drop, length-take-le, drop-cons, take_all, take-length}
use lib.Dec.{leb, eqb}
use borrow.Author.Tests.{le-leb, lt-leb, eqb-true, eq-eqb}
use Rattle.wire.specs.Pick.{pick}
use Rattle.wire.specs.Tests.{both}
use Rattle.wire.specs.Bytes.{byte_at, part, number, number_at, part_at, bytes_of, zeros, same_bytes, Bytes, Same}
use Rattle.wire.proofs.TestLaws.{not_both}

-- bytes

pub byte_in : (s : List ℕ) (at : ℕ) → get_or s at 0 ≡ byte_at s at
unfolding byte_at
byte_in s at = refl

pub byte_out : (s : List ℕ) (at : ℕ) → length s ≤ at → 0 ≡ byte_at s at
unfolding byte_at
byte_out s at h = sym (get_or-eq_default s 0 h)

pub byte_drop : (s : List ℕ) (n i : ℕ) → byte_at (drop n s) i ≡ byte_at s (n + i)
unfolding byte_at
byte_drop s n i = get_or-drop n s i 0

-- parts

module _ (s : List ℕ) (at n : ℕ) where
  pub part_in : at + n ≤ length s → part s at n ≡ take n (drop at s)
  unfolding part
  part_in h = rw (le-leb (at + n) (length s) h)

  pub part_out : length s < at + n → part s at n ≡ []
  unfolding part
  part_out h = rw (lt-leb (at + n) (length s) h)

  pub part_length : at + n ≤ length s → length (part s at n) ≡ n
  part_length h = rw (part_in h) (simp (length-take, length-drop) (omega arith))

  pub part_at_lem : at + n ≤ length s → (i : ℕ) → i < n → get_or (part s at n) i 0 ≡ byte_at s (at + i)
  unfolding byte_at
  part_at_lem h i k = rw (part_in h, get_or-take, get_or-drop)

pub part_whole : (s : List ℕ) → part s 0 (length s) ≡ s
part_whole s = part_in s 0 (length s) (omega arith) ∙ take-length s

-- where it starts, in a slice that starts at p

pub offset_in_lem : (s : List ℕ) (at n p : ℕ) → at + n ≤ length s → at + p ≡ p + part_at s at n
unfolding part_at
offset_in_lem s at n p h = rw (le-leb (at + n) (length s) h) (omega arith)

pub offset_out : (s : List ℕ) (at n p : ℕ) → length s < at + n → p ≡ p + part_at s at n
unfolding part_at
offset_out s at n p h = rw (lt-leb (at + n) (length s) h) (omega arith)

-- as a slice is lent by its start and its end
pub part_lent : (s : List ℕ) (at n : ℕ) → at + n ≤ length s → take (at + n - at) (drop at s) ≡ part s at n
part_lent s at n h = let e : at + n - at ≡ n = omega arith in rw e (sym (part_in s at n h))

-- two parts in a row are one
pub part_split : (s : List ℕ) (at a b : ℕ) → at + (a + b) ≤ length s → part s at (a + b) ≡ part s at a ++ part s (at + a) b
part_split s at a b h =
    part_in s at (a + b) h
    ∙ take-add a b (drop at s)
    ∙ rw (drop-drop a at s, part_in s at a (omega arith), part_in s (at + a) b (omega arith))

-- parts of two lists in a row: behind the first, and in the first

pub part_behind : (a s : List ℕ) (at n : ℕ) → part (a ++ s) (length a + at) n ≡ part s at n
part_behind a s at n =
    by_cases (dec_le (at + n) (length s))
    (λ h.
    let k : length a + at + n ≤ length (a ++ s) = simp length-append (omega arith) in
    part_in (a ++ s) (length a + at) n k ∙ rw (drop-append-add a s at) (sym (part_in s at n h)))
    (λ f.
    let h : length s < at + n = omega arith in
    let k : length (a ++ s) < length a + at + n = simp length-append (omega arith) in
    part_out (a ++ s) (length a + at) n k ∙ sym (part_out s at n h))

pub part_before : (s b : List ℕ) (at n : ℕ) → at + n ≤ length s → part (s ++ b) at n ≡ part s at n
part_before s b at n h =
    let k : at + n ≤ length (s ++ b) = simp length-append (omega arith) in
    let i : n ≤ length (drop at s) = simp length-drop (omega arith) in
    part_in (s ++ b) at n k ∙ rw (drop-append-le at s b (omega arith), take-append-le n (drop at s) b i) (sym (part_in s at n h))

-- and in the middle one of three
pub part_within : (a s b : List ℕ) (at n : ℕ) → at + n ≤ length s → part (a ++ s ++ b) (length a + at) n ≡ part s at n
part_within a s b at n h =
    part_before (a ++ s) b (length a + at) n (simp length-append (omega arith)) ∙ part_behind a s at n

-- a part depends only on its bytes
pub part_same : {s t : List ℕ} {a b : ℕ} → Same s t a b → (at n : ℕ) → a ≤ at → at + n ≤ b → part s at n ≡ part t at n
part_same {s} {t} {a} {b} e at n h k =
    let p : at + n ≤ length s = omega (arith, e.in_first) in
    let q : at + n ≤ length t = omega (arith, e.in_second) in
    ext_get_or 0 (part s at n) (part t at n) (part_length s at n p ∙ sym (part_length t at n q))
    (λ i l.
    let m : i < n = omega (arith, part_length s at n p) in
    part_at_lem s at n p i m ∙ e.each (at + i) (omega arith) (omega arith) ∙ sym (part_at_lem t at n q i m))

pub byte_same : {s t : List ℕ} {a b : ℕ} → Same s t a b → (at : ℕ) → a ≤ at → at < b → byte_at s at ≡ byte_at t at
byte_same e at h k = e.each at h k

-- the number of two lists in a row
pub number_append : (x y : List ℕ) → number (x ++ y) ≡ number x + 256 ^ length x * number y
unfolding number
number_append [] y = omega arith
number_append (b ∷ x) y =
    let e : 256 ^ suc (length x) ≡ 256 ^ length x * 256 = pow-suc 256 (length x) in
    let f : 256 ^ length x * 256 * number y ≡ 256 * (256 ^ length x * number y) = rw (mul_comm (256 ^ length x) 256) (mul_assoc 256 (256 ^ length x) (number y)) in
    rw (number_append x y, e, f) (omega arith)

-- numbers at a place: one law over the width

module _ (w : ℕ) (s : List ℕ) (at : ℕ) where
  pub number_out : length s < at + w → 0 ≡ number_at w s at
  unfolding number_at number
  number_out h = rw (part_out s at w h)

pub number_split :
    (a b : ℕ) (s : List ℕ) (at x y : ℕ) → at + (a + b) ≤ length s → x ≡ number_at a s at → y ≡ number_at b s (at + a) →
    x + 256 ^ a * y ≡ number_at (a + b) s at
unfolding number_at
number_split a b s at x y h p q =
    rw (p, q, part_split s at a b h, number_append, part_length s at a (omega arith))

one_in : (s : List ℕ) (at : ℕ) → at + 1 ≤ length s → byte_at s at ≡ number_at 1 s at
unfolding byte_at number_at number
one_in s at h = rw (part_in s at 1 h, drop-cons s at 0 (omega arith)) (omega arith)

pub number_one : (s : List ℕ) (at : ℕ) → byte_at s at ≡ number_at 1 s at
number_one s at =
    by_cases (dec_le (at + 1) (length s)) (one_in s at)
    (λ n. let h : length s < at + 1 = omega arith in sym (byte_out s at (omega arith)) ∙ number_out 1 s at h)

pub byte_number : (s : List ℕ) (at x : ℕ) → x ≡ byte_at s at → x ≡ number_at 1 s at
byte_number s at x e = e ∙ number_one s at

-- a number depends only on its bytes
pub number_same : {s t : List ℕ} {a b : ℕ} → Same s t a b → (w at : ℕ) → a ≤ at → at + w ≤ b → number_at w s at ≡ number_at w t at
unfolding number_at
number_same e w at h k = ap number (part_same e at w h k)

-- numbers and bytes of two lists in a row

pub number_behind : (w : ℕ) (a s : List ℕ) (at : ℕ) → number_at w (a ++ s) (length a + at) ≡ number_at w s at
unfolding number_at
number_behind w a s at = ap number (part_behind a s at w)

pub number_before : (w : ℕ) (s b : List ℕ) (at : ℕ) → at + w ≤ length s → number_at w (s ++ b) at ≡ number_at w s at
unfolding number_at
number_before w s b at h = ap number (part_before s b at w h)

pub byte_behind : (a s : List ℕ) (at : ℕ) → byte_at (a ++ s) (length a + at) ≡ byte_at s at
byte_behind a s at = number_one _ _ ∙ number_behind 1 a s at ∙ sym (number_one s at)

pub byte_before : (s b : List ℕ) (at : ℕ) → at < length s → byte_at (s ++ b) at ≡ byte_at s at
byte_before s b at h = number_one _ _ ∙ number_before 1 s b at (omega arith) ∙ sym (number_one s at)

-- the bytes of a number, and the number of bytes

pub bytes_length : (w v : ℕ) → length (bytes_of w v) ≡ w
unfolding bytes_of
bytes_length zero v = refl
bytes_length (suc w) v = ap suc (bytes_length w (v / 256))

pub number_bytes : (w v : ℕ) → v < 256 ^ w → number (bytes_of w v) ≡ v
unfolding bytes_of number
number_bytes zero v h = omega arith
number_bytes (suc w) v h =
    let e : 256 ^ suc w ≡ 256 ^ w * 256 = pow-suc 256 w in
    let l : v / 256 < 256 ^ w = omega arith in
    rw (number_bytes w (v / 256) l) (omega arith)

pub number_of : (w v : ℕ) → v < 256 ^ w → number_at w (bytes_of w v) 0 ≡ v
unfolding number_at
number_of w v h =
    let p : part (bytes_of w v) 0 w ≡ bytes_of w v = ap (part (bytes_of w v) 0) (sym (bytes_length w v)) ∙ part_whole (bytes_of w v) in
    ap number p ∙ number_bytes w v h

pub bytes_tail : (b : ℕ) (bs : List ℕ) → Bytes (b ∷ bs) → Bytes bs
bytes_tail b bs h = record { small = λ i. h.small (suc i) }

pub bytes_number : (s : List ℕ) → Bytes s → bytes_of (length s) (number s) ≡ s
unfolding bytes_of number
bytes_number [] h = refl
bytes_number (b ∷ bs) h =
    let k : b < 256 = h.small 0 in
    let p : (b + 256 * number bs) % 256 ≡ b = omega arith in
    let q : (b + 256 * number bs) / 256 ≡ number bs = omega arith in
    rw (p, q, bytes_number bs (bytes_tail b bs h))

-- lists of bytes

pub bytes_none : Bytes []
bytes_none = record { small = λ i. omega arith }

pub bytes_cons : (b : ℕ) {bs : List ℕ} → b < 256 → Bytes bs → Bytes (b ∷ bs)
bytes_cons b {bs} h w = record { small = each }
  where
    each : (i : ℕ) → get_or (b ∷ bs) i 0 < 256
    each zero = h
    each (suc i) = w.small i

pub bytes_append : {a b : List ℕ} → Bytes a → Bytes b → Bytes (a ++ b)
bytes_append {a = []} v w = w
bytes_append {a = x ∷ a} v w = bytes_cons x (v.small 0) (bytes_append (bytes_tail x a v) w)

pub bytes_take : (n : ℕ) {s : List ℕ} → Bytes s → Bytes (take n s)
bytes_take zero w = bytes_none
bytes_take (suc n) {s = []} w = bytes_none
bytes_take (suc n) {s = b ∷ bs} w = bytes_cons b (w.small 0) (bytes_take n (bytes_tail b bs w))

pub bytes_drop : (n : ℕ) {s : List ℕ} → Bytes s → Bytes (drop n s)
bytes_drop n w = record { small = λ i. rw get_or-drop (w.small (n + i)) }

pub bytes_part : {s : List ℕ} (at n : ℕ) → Bytes s → Bytes (part s at n)
unfolding part
bytes_part {s} at n w = go (leb (at + n) (length s))
  where
    go : (b : Bool) → Bytes (pick b (take n (drop at s)) [])
    go true = bytes_take n (bytes_drop at w)
    go false = bytes_none

-- the number of w bytes has that many

bytes_less : (s : List ℕ) → Bytes s → number s < 256 ^ length s
unfolding number
bytes_less [] h = omega arith
bytes_less (b ∷ bs) h =
    let e : 256 ^ suc (length bs) ≡ 256 ^ length bs * 256 = pow-suc 256 (length bs) in
    omega (arith, bytes_less bs (bytes_tail b bs h), h.small 0)

pub number_small : (w : ℕ) (s : List ℕ) → Bytes s → (at : ℕ) → number_at w s at < 256 ^ w
unfolding number_at number
number_small w s h at =
    by_cases (dec_le (at + w) (length s)) (λ l. rw (part_length s at w l) at (bytes_less (part s at w) (bytes_part at w h)))
    (λ l. let e = part_out s at w (omega arith) in rw e (power w))
  where
    power : (k : ℕ) → 0 < 256 ^ k
    power zero = omega arith
    power (suc k) = let e : 256 ^ suc k ≡ 256 ^ k * 256 = pow-suc 256 k in omega (arith, power k)

pub bytes_of_lem : (w v : ℕ) → Bytes (bytes_of w v)
unfolding bytes_of
bytes_of_lem zero v = bytes_none
bytes_of_lem (suc w) v = bytes_cons (v % 256) (omega arith) (bytes_of_lem w (v / 256))

-- zeros, which are the bytes of the number 0

pub zeros_of : (w : ℕ) → zeros w ≡ bytes_of w 0
unfolding zeros bytes_of
zeros_of zero = refl
zeros_of (suc w) = ap (λ (l : List ℕ). 0 ∷ l) (zeros_of w)

pub zeros_bytes : (n : ℕ) → Bytes (zeros n)
zeros_bytes n = rw (zeros_of n) (bytes_of_lem n 0)

pub zeros_length : (n : ℕ) → length (zeros n) ≡ n
unfolding zeros
zeros_length n = length-replicate n _

pub zeros_joined : (n m : ℕ) → zeros (n + m) ≡ zeros n ++ zeros m
unfolding zeros
zeros_joined n m = sym (replicate-append-replicate n m _)

-- comparison

pub same_is : (x y : List ℕ) → same_bytes x y ≡ true → x ≡ y
unfolding same_bytes
same_is [] [] e = refl
same_is [] (y ∷ ys) e = not_both e refl
same_is (x ∷ xs) [] e = not_both e refl
same_is (x ∷ xs) (y ∷ ys) e = go (eqb x y) refl e (same_is xs ys)
  where
    go : (b : Bool) → eqb x y ≡ b → both b (same_bytes xs ys) ≡ true → (same_bytes xs ys ≡ true → xs ≡ ys) → x ∷ xs ≡ y ∷ ys
    go true f g r = let p : x ≡ y = eqb-true x y f in rw (p, r g)
    go false f g r = not_both g refl

same_self : (l : List ℕ) → same_bytes l l ≡ true
unfolding same_bytes
same_self [] = refl
same_self (z ∷ zs) = rw (eq-eqb z z refl) (same_self zs)

pub is_same : (x y : List ℕ) → x ≡ y → same_bytes x y ≡ true
is_same x y e = rw e (same_self y)

-- a position that is clipped to a bound behind the list's end reads as the position itself

pub saturated_number : (w : ℕ) (s : List ℕ) (at p m : ℕ) → 0 < w → length s ≤ m → p ≡ min at m → number_at w s p ≡ number_at w s at
saturated_number w s at p m h l e =
    by_cases (dec_le at m) (λ k. let f : p ≡ at = omega arith in rw f)
    (λ n. sym (number_out w s p (omega arith)) ∙ number_out w s at (omega arith))

pub saturated_byte : (s : List ℕ) (at p m : ℕ) → length s ≤ m → p ≡ min at m → byte_at s p ≡ byte_at s at
saturated_byte s at p m l e = number_one s p ∙ saturated_number 1 s at p m (omega arith) l e ∙ sym (number_one s at)

-- lists that begin with the same bytes

each_take : (k : ℕ) (s t : List ℕ) → take k s ≡ take k t → (i : ℕ) → i < k → byte_at s i ≡ byte_at t i
unfolding byte_at
each_take k s t e i h = sym (get_or-take k s i 0 h) ∙ ap (λ (l : List ℕ). get_or l i 0) e ∙ get_or-take k t i 0 h

pub same_from_take : (k : ℕ) (s t : List ℕ) → take k s ≡ take k t → (s ≡ t) ⊎ Same s t 0 k
same_from_take k s t e =
    by_cases (dec_le k (length s))
    (λ h.
    let p : length (take k t) ≡ k = ap length (sym e) ∙ length-take-le k s h in
    inr (record { in_first = h; in_second = omega (arith, length-take k t); each = λ i l m. each_take k s t e i m }))
    (λ n.
    let h : length s ≤ k = omega arith in
    let p : take k s ≡ s = take_all k s h in
    let q : length (take k t) ≡ length s = ap length (sym e ∙ p) in
    inl (sym p ∙ e ∙ take_all k t (omega (arith, length-take k t))))

pub same_none : (s t : List ℕ) → Same s t 0 0
same_none s t = record { in_first = omega arith; in_second = omega arith; each = λ i h k. absurd (omega arith) }

pub same_more : {s t : List ℕ} {i : ℕ} → Same s t 0 i → i < length s → i < length t → byte_at s i ≡ byte_at t i → Same s t 0 (i + 1)
same_more {s} {t} {i} e h k f = record { in_first = omega arith; in_second = omega arith; each = each }
  where
    each : (j : ℕ) → 0 ≤ j → j < i + 1 → byte_at s j ≡ byte_at t j
    each j l m = by_cases (dec_le i j) (λ n. let z : j ≡ i = omega arith in rw z f) (λ n. e.each j l (omega arith))

pub same_whole : {s t : List ℕ} {i : ℕ} → Same s t 0 i → length s ≡ length t → length s ≤ i → s ≡ t
unfolding byte_at
same_whole {s} {t} e l h = ext_get_or 0 s t l (λ j k. e.each j (omega arith) (omega arith))

pub same_part : {s t : List ℕ} {a b : ℕ} → Same s t a b → (c d : ℕ) → a ≤ c → d ≤ b → Same s t c d
same_part e c d h k =
    record { in_first = omega (arith, e.in_first); in_second = omega (arith, e.in_second); each = λ i l m. e.each i (omega arith) (omega arith) }

pub same_sym : {s t : List ℕ} {a b : ℕ} → Same s t a b → Same t s a b
same_sym e = record { in_first = e.in_second; in_second = e.in_first; each = λ i l m. sym (e.each i l m) }

pub same_trans : {s t u : List ℕ} {a b : ℕ} → Same s t a b → Same t u a b → Same s u a b
same_trans e f = record { in_first = e.in_first; in_second = f.in_second; each = λ i l m. e.each i l m ∙ f.each i l m }

-- a list begins with the same bytes, whatever stands behind it
pub same_append : (s b : List ℕ) (c d : ℕ) → d ≤ length s → Same s (s ++ b) c d
same_append s b c d h =
    record { in_first = h; in_second = simp length-append (omega arith); each = λ i l m. sym (byte_before s b i (omega arith)) }
