-- Bytes put into a list. Assumes nothing.
use Prim.Native.Nat.{ℕ, zero, suc, ◌+◌, ◌*◌, ◌/◌, ◌%◌, ◌^◌, ◌-◌, ◌≤◌, ◌<◌}
use mathlib.Core.Logic.{◌⊎◌, inl, inr, ⊎_elim, by_cases}
use mathlib.Core.Bool.{Bool, true, false}
use native.Mathlib.Decide.{dec_le}
use native.Mathlib.Omega.{arith}
use native.Mathlib.Numerals.{add-one}
use native.Mathlib.Nat.{pow-suc, mod-add-div, mul_assoc, div-div-eq-div-mul, mul_comm}
use mathlib.Core.Path.{◌≡◌, refl, sym, ap, ap₂, ◌∙◌}
use mathlib.Core.List.{List, [], ◌∷◌, ◌++◌, append_assoc}
use lib.ListN.{length, take, drop, set, get_or, length-append, length-take, length-drop, get_or-append}
use lib.Dec.{leb}
use borrow.Rule.Slice.PartMut.{put_mid}
use Rattle.std.proofs.lemmas.Slice.{put_mid-paste}
use Rattle.std.proofs.lemmas.List.Edits.{paste_all}
use lib.Seq.{get_or-take, take_at, drop-append-add, drop-drop, paste, paste-zero, paste-suc, take-length, set_split}
use borrow.Author.Tests.{le-leb, lt-leb}
use Rattle.wire.specs.Pick.{pick}
use Rattle.wire.specs.Bytes.{Bytes, byte_at, part, number, number_at, put, zeros, bytes_of, Same}
use Rattle.wire.proofs.ByteLaws.{part_whole, part_within, byte_behind, byte_drop, number_same, number_out, number_bytes, bytes_length, bytes_append, bytes_take, bytes_drop, zeros_length, zeros_joined}

module _ (d : List ℕ) (at : ℕ) (v : List ℕ) where
  pub put_fits : at + length v ≤ length d → put d at v ≡ take at d ++ v ++ drop (at + length v) d
  unfolding put
  put_fits h = rw le-leb

  pub put_not : length d < at + length v → put d at v ≡ d
  unfolding put
  put_not h = rw lt-leb

  pub length_put : length (put d at v) ≡ length d
  length_put =
      by_cases (dec_le (at + length v) (length d))
      (λ h. rw put_fits (simp (length-append, length-take, length-drop) (omega arith)))
      (λ n. let h : length d < at + length v = omega arith in rw put_not)

-- what is put reads back, and what is outside stays

module _ (d : List ℕ) (at : ℕ) (v : List ℕ) where
  pub put_part : at + length v ≤ length d → part (put d at v) at (length v) ≡ v
  put_part h =
      let e : length (take at d) + 0 ≡ at = rw length-take (omega arith) in
      rw (put_fits d at v h)
      (ap (λ (i : ℕ). part (take at d ++ v ++ drop (at + length v) d) i (length v)) (sym e)
      ∙ part_within (take at d) v (drop (at + length v) d) 0 (length v) (omega arith)
      ∙ part_whole v)

  pub put_each_lem : (i : ℕ) → i < length v → at + length v ≤ length d → get_or (put d at v) (at + i) 0 ≡ get_or v i 0
  unfolding byte_at
  put_each_lem i l h =
      let k : length (take at d) + i ≡ at + i = rw length-take (omega arith) in
      let m : at + i < length (take at d ++ v) = simp (length-append, length-take) (omega arith) in
      rw (put_fits d at v h, get_or-append (take at d ++ v) (drop (at + length v) d) 0 (at + i) m, ← k) (byte_behind (take at d) v i)

  put_lower : (i : ℕ) → i < at → at + length v ≤ length d → byte_at d i ≡ byte_at (put d at v) i
  unfolding byte_at
  put_lower i l h =
      let k : i < length (take at d) = rw length-take (omega arith) in
      let m : i < length (take at d ++ v) = simp length-append (omega arith) in
      rw (put_fits d at v h, get_or-append (take at d ++ v) (drop (at + length v) d) 0 i m, get_or-append (take at d) v 0 i k, get_or-take)

  put_higher : (i : ℕ) → at + length v ≤ i → at + length v ≤ length d → byte_at d i ≡ byte_at (put d at v) i
  put_higher i l h =
      let k : List ℕ = take at d ++ v in
      let m : length k ≡ at + length v = simp (length-append, length-take) (omega arith) in
      let e : length k + (i - (at + length v)) ≡ i = omega arith in
      let n : at + length v + (i - (at + length v)) ≡ i = omega arith in
      let r : byte_at (k ++ drop (at + length v) d) (length k + (i - (at + length v))) ≡ byte_at d (at + length v + (i - (at + length v))) = byte_behind k (drop (at + length v) d) (i - (at + length v)) ∙ byte_drop d (at + length v) (i - (at + length v)) in
      rw (put_fits d at v h) (sym (rw (e, n) at r))

  pub put_outside : (i : ℕ) → (i < at) ⊎ (at + length v ≤ i) → byte_at d i ≡ byte_at (put d at v) i
  put_outside i o =
      by_cases (dec_le (at + length v) (length d)) (λ h. ⊎_elim (λ l. put_lower i l h) (λ l. put_higher i l h) o)
      (λ n. let h : length d < at + length v = omega arith in rw put_not)

  pub put_same : (a b : ℕ) → b ≤ length d → (b ≤ at) ⊎ (at + length v ≤ a) → Same d (put d at v) a b
  put_same a b h o =
      record {
        in_first = h;
        in_second = rw length_put h;
        each = λ i l m. put_outside i (⊎_elim (λ p. inl (omega arith)) (λ p. inr (omega arith)) o);
      }

  pub put_aside : (w p : ℕ) → (p + w ≤ at) ⊎ (at + length v ≤ p) → number_at w (put d at v) p ≡ number_at w d p
  put_aside w p o =
      by_cases (dec_le (p + w) (length d)) (λ h. sym (number_same (put_same p (p + w) h o) w p (omega arith) (omega arith)))
      (λ n. sym (number_out w (put d at v) p (omega (arith, length_put d at v))) ∙ number_out w d p (omega arith))

pub bytes_put : {d : List ℕ} (at : ℕ) {v : List ℕ} → Bytes d → Bytes v → Bytes (put d at v)
unfolding put
bytes_put {d} at {v} p q = go (leb (at + length v) (length d))
  where
    go : (b : Bool) → Bytes (pick b (take at d ++ v ++ drop (at + length v) d) d)
    go true = bytes_append (bytes_append (bytes_take at p) q) (bytes_drop (at + length v) p)
    go false = p

-- a number that is put reads back
pub put_number : (w v : ℕ) (d : List ℕ) (at : ℕ) → at + w ≤ length d → v < 256 ^ w → number_at w (put d at (bytes_of w v)) at ≡ v
unfolding number_at
put_number w v d at h k =
    let e = bytes_length w v in
    let p : part (put d at (bytes_of w v)) at w ≡ bytes_of w v =
    ap (part (put d at (bytes_of w v)) at) (sym e) ∙ put_part d at (bytes_of w v) (omega arith) in
    ap number p ∙ number_bytes w v k

-- one byte
pub put_one : (d : List ℕ) (at v : ℕ) → at < length d → set d at v ≡ put d at (v ∷ [])
put_one d at v h =
    let k : at + length (v ∷ []) ≤ length d = omega arith in
    let e : at + 1 ≡ suc at = add-one at in
    set_split d at v h ∙ sym (put_fits d at (v ∷ []) k ∙ rw e (append_assoc (take at d) (v ∷ []) (drop (suc at) d)))

pub put_one_out : (d : List ℕ) (at v : ℕ) → length d ≤ at → d ≡ put d at (v ∷ [])
put_one_out d at v h = sym (put_not d at (v ∷ []) (omega arith))

-- two puts, one behind the other, are one
pub put_put : (d : List ℕ) (at : ℕ) (v w : List ℕ) → at + length v + length w ≤ length d → put (put d at v) (at + length v) w ≡ put d at (v ++ w)
put_put d at v w h =
    let p : List ℕ = take at d ++ v in
    let r : List ℕ = drop (at + length v) d in
    let fits : at + length v ≤ length d = omega arith in
    let lp : length p ≡ at + length v = simp (length-append, length-take) (omega arith) in
    let lw : at + length v + length w ≤ length (p ++ r) = simp (length-append, length-take, length-drop) (omega arith) in
    let lvw : at + length (v ++ w) ≤ length d = simp length-append (omega arith) in
    let e : at + length v + length w ≡ at + length (v ++ w) = simp length-append (omega arith) in
    ap (λ (x : List ℕ). put x (at + length v) w) (put_fits d at v fits)
    ∙ put_fits (p ++ r) (at + length v) w lw
    ∙ ap₂ (λ (a b : List ℕ). a ++ w ++ b) (take_at p r (at + length v) lp)
    (ap (λ (n : ℕ). drop (n + length w) (p ++ r)) (sym lp) ∙ drop-append-add p r (length w) ∙ drop-drop (length w) (at + length v) d ∙ ap (λ (n : ℕ). drop n d) e)
    ∙ ap (λ (x : List ℕ). x ++ drop (at + length (v ++ w)) d) (append_assoc (take at d) v w)
    ∙ sym (put_fits d at (v ++ w) lvw)

-- nothing, put
pub put_nil : (d : List ℕ) (at : ℕ) → put d at [] ≡ d
put_nil d at =
    by_cases (dec_le (at + 0) (length d)) (λ h. rw put_fits (sym (paste-zero d at [])))
    (λ n. let h : length d < at + 0 = omega arith in rw put_not)

-- l is d with v at `at`, and v is n long: where a writer stands
pub record Wrote (d : List ℕ) (at : ℕ) (v : List ℕ) (n : ℕ) (l : List ℕ) : Type 0 where
  pub long : length v ≡ n
  pub is : l ≡ put d at v

module _ {d : List ℕ} {at : ℕ} {v : List ℕ} {n : ℕ} {l : List ℕ} where
  -- the first put
  pub first : l ≡ put d at v → length v ≡ n → Wrote d at v n l
  first e h = record { long = h; is = e }

  -- one put more, of w, m long, where the last one ended
  pub then :
      Wrote d at v n l → (w : List ℕ) (m at' : ℕ) {l' : List ℕ} → l' ≡ put l at' w → length w ≡ m → at' ≡ at + n → at + n + m ≤ length d →
      Wrote d at (v ++ w) (n + m) l'
  then s w m at' e lw ea h =
      let f : at + length v + length w ≤ length d = omega (arith, s.long) in
      let g : at' ≡ at + length v = omega (arith, s.long) in
      record {
        long = length-append v w ∙ omega (arith, s.long);
        is = e ∙ rw (s.is, g) (put_put d at v w f);
      }

-- numbers: the bytes of a wider one are those of two narrower ones

pub bytes_split : (a b v : ℕ) → bytes_of (a + b) v ≡ bytes_of a v ++ bytes_of b (v / 256 ^ a)
unfolding bytes_of
bytes_split zero b v =
    let e : 0 + b ≡ b = omega arith in
    let f : v / 256 ^ 0 ≡ v = omega arith in
    rw (e, f)
bytes_split (suc a) b v =
    let e : suc a + b ≡ suc (a + b) = omega arith in
    let p : v / 256 / 256 ^ a ≡ v / 256 ^ suc a = div-div-eq-div-mul v 256 (256 ^ a) ∙ ap (λ (n : ℕ). v / n) (mul_comm 256 (256 ^ a) ∙ sym (pow-suc 256 a)) in
    rw (e, ← p) (ap (λ (l : List ℕ). v % 256 ∷ l) (bytes_split a b (v / 256)))

-- only the lower bytes count
pub bytes_low : (w v q : ℕ) → bytes_of w (v + 256 ^ w * q) ≡ bytes_of w v
unfolding bytes_of
bytes_low zero v q = refl
bytes_low (suc w) v q =
    let e : 256 ^ suc w ≡ 256 ^ w * 256 = pow-suc 256 w in
    let m : 256 ^ w * 256 * q ≡ 256 * (256 ^ w * q) = rw (mul_comm (256 ^ w) 256) (mul_assoc 256 (256 ^ w) q) in
    let f : (v + 256 ^ suc w * q) % 256 ≡ v % 256 = rw (e, m) (omega arith) in
    let g : (v + 256 ^ suc w * q) / 256 ≡ v / 256 + 256 ^ w * q = rw (e, m) (omega arith) in
    rw (f, g, bytes_low w (v / 256) q)

pub bytes_mod : (w v : ℕ) → bytes_of w (v % 256 ^ w) ≡ bytes_of w v
bytes_mod w v =
    let e : v % 256 ^ w + 256 ^ w * (v / 256 ^ w) ≡ v = mod-add-div v (256 ^ w) in
    sym (bytes_low w (v % 256 ^ w) (v / 256 ^ w)) ∙ ap (bytes_of w) e

-- the law over the width: a number put in two halves
pub put_halves :
    (a b : ℕ) (d l l' : List ℕ) (at v x y : ℕ) → l ≡ put d at (bytes_of a x) → l' ≡ put l (at + a) (bytes_of b y) → at + (a + b) ≤ length d →
    bytes_of a x ≡ bytes_of a v → y ≡ v / 256 ^ a → l' ≡ put d at (bytes_of (a + b) v)
put_halves a b d l l' at v x y p q h e f =
    let i = bytes_length a v in
    let j = bytes_length b y in
    let k : at + length (bytes_of a v) + length (bytes_of b y) ≤ length d = omega arith in
    let c : at + a ≡ at + length (bytes_of a v) = omega arith in
    let m : put l (at + a) (bytes_of b y) ≡ put d at (bytes_of a v ++ bytes_of b y) = rw (p, e, c) (put_put d at (bytes_of a v) (bytes_of b y) k) in
    let n : bytes_of a v ++ bytes_of b y ≡ bytes_of (a + b) v = rw (bytes_split a b v, f) in
    q ∙ m ∙ ap (put d at) n

pub put_number_out : (w v : ℕ) (d : List ℕ) (at : ℕ) → length d < at + w → d ≡ put d at (bytes_of w v)
put_number_out w v d at h = sym (put_not d at (bytes_of w v) (omega (arith, bytes_length w v)))

-- a copy under way: i elements of s have been stored in d from `at` on
unfoldable pub pasted : List ℕ → ℕ → List ℕ → ℕ → List ℕ
pasted d at s i = paste d at s i

module _ (d : List ℕ) (at : ℕ) (s : List ℕ) where
  pub pasted_none : d ≡ pasted d at s 0
  unfolding pasted
  pasted_none = paste-zero d at s

  pub pasted_more : (i : ℕ) → at + i < length d → i < length s → set (pasted d at s i) (at + i) (get_or s i 0) ≡ pasted d at s (i + 1)
  unfolding pasted
  pasted_more i h k = rw add-one (paste-suc d at s i 0 h k)

  pub pasted_all : (i : ℕ) → i ≡ length s → at + length s ≤ length d → pasted d at s i ≡ put d at s
  unfolding pasted
  pasted_all i e h = rw (e, take-length) (sym (put_fits d at s h))

-- a part that is overwritten by as many bytes as it has
pub mid_put : (d : List ℕ) (at n : ℕ) (v : List ℕ) {w : List ℕ} → w ≡ v → length v ≡ n → at + n ≤ length d → put_mid at (at + n - at) d w ≡ put d at v
mid_put d at n v e l h =
    put_mid-paste at (at + n - at) d _ v n e (omega arith) (omega arith)
    ∙ paste_all d at v n (omega arith)
    ∙ sym (append_assoc (take at d) v (drop (at + n) d))
    ∙ ap (λ (i : ℕ). take at d ++ v ++ drop (at + i) d) (sym l)
    ∙ sym (put_fits d at v (omega arith))

-- what is n long and does not fit is not written
pub put_out : (d : List ℕ) (at : ℕ) (v : List ℕ) {n : ℕ} → length v ≡ n → length d < at + n → d ≡ put d at v
put_out d at v e h = sym (put_not d at v (omega arith))

-- zeros, one more at a time

pub zeros_none : (d : List ℕ) (at : ℕ) → d ≡ put d at (zeros 0)
unfolding zeros
zeros_none d at = sym (put_nil d at)

pub zeros_put_more : (d l : List ℕ) (at i : ℕ) → l ≡ put d at (zeros i) → at + i < length d → set l (at + i) 0 ≡ put d at (zeros (i + 1))
unfolding zeros
zeros_put_more d l at i e h =
    let b = length_put d at (zeros i) in
    let o = put_one l (at + i) 0 (omega (arith, ap length e)) in
    (then (first e (zeros_length i)) (0 ∷ []) 1 (at + i) o refl refl (omega arith)).is ∙ ap (put d at) (sym (zeros_joined i 1))

pub zeros_all : (d l : List ℕ) (at i n : ℕ) → l ≡ put d at (zeros i) → i ≤ n → n ≤ i → l ≡ put d at (zeros n)
zeros_all d l at i n e h k = let q : i ≡ n = omega arith in rw (← q) e
