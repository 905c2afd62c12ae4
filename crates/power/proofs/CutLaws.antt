-- Writes that reach into nothing that stages 1 to 4 judge, stopped anywhere, leave a file refused with 5. Assumes nothing.
use Rattle.std.specs.Prelude.{Err}
use Prim.Native.Nat.{ℕ, zero, suc, ◌+◌, ◌-◌, ◌≤◌, ◌<◌}
use native.Mathlib.Omega.{arith}
use mathlib.Core.Path.{◌≡◌, refl, sym, ap, ◌∙◌}
use mathlib.Core.Logic.{inl, inr}
use mathlib.Core.List.{List, [], ◌∷◌, ◌++◌}
use mathlib.Core.Bool.{false}
use lib.ListN.{length, take, drop, get_or, take-append-drop}
use lib.Seq.{length-take-le}
use Rattle.wire.specs.Bytes.{Same, byte_at, number, number_at, part, put, zeros}
use Rattle.wire.proofs.TestLaws.{no}
use Rattle.wire.proofs.ByteLaws.{same_sym, same_append, part_at_lem, zeros_length}
use Rattle.wire.proofs.PutLaws.{put_same, put_each_lem, length_put}
use Rattle.answer.specs.declared.Refusal.TheVariants.{Opened}
use Rattle.answer.specs.Refusals.{gate, unless_refused}
use Rattle.record.specs.Chain.{header_end}
use Rattle.check_header.specs.Stages.{closed, first_two, next_two, stages, check_header}
use Rattle.check_header.specs.Passed.{Headed}
use Rattle.check_header.specs.Judged.{SameJudged}
use Rattle.page_check.specs.Stages.{check}
use Rattle.writable.proofs.PartLaws.{judged_headed}
use Rattle.stores.specs.Stores.{Write, run, store_count, stopped, Apart}
use Rattle.stores.specs.Writes.{one_write}
use Rattle.stores.proofs.WriteLaws.{one_count}
use Rattle.stores.proofs.StoreLaws.{apart_stays, length_stopped, stopped_append, stopped_none, stopped_all, count_append}
use Rattle.page_laws.proofs.FrontLaws.{judged_then}
use Rattle.lawful.specs.Marks.{Harmless}

-- a number with a byte that is not zero is not zero

number_none : (v : List ℕ) → number v ≡ 0 → (i : ℕ) → get_or v i 0 ≡ 0
unfolding number
number_none [] e i = refl
number_none (b ∷ bs) e zero = omega arith
number_none (b ∷ bs) e (suc i) = number_none bs (omega arith) i

opened_byte : (s : List ℕ) (p : ℕ) → 48 ≤ p → p < 56 → 56 ≤ length s → (byte_at s p ≡ 0 → ⊥) → closed s ≡ false
unfolding closed byte_at number_at
opened_byte s p g h l z = sym (no _ (λ e. z (at_place (number_none (part s 48 8) e.0 (p - 48)))))
  where
    at_place : get_or (part s 48 8) (p - 48) 0 ≡ 0 → get_or s p 0 ≡ 0
    at_place e =
        let a : 48 + (p - 48) ≡ p = omega arith in
        sym (part_at_lem s 48 8 (omega arith) (p - 48) (omega arith) ∙ ap (λ (i : ℕ). get_or s i 0) a) ∙ e

-- what is judged is that of a good header, and a byte of the opened time is not zero: refused with 5, whatever the length

header_five : (s : List ℕ) → Headed s (length s) → closed s ≡ false → check s ≡ Err Opened
unfolding check unless_refused check_header stages first_two next_two gate
header_five s h c = rw (h.block, h.version, h.header, h.ceilings, c)

taken_same : (d : List ℕ) (l a b : ℕ) → l ≤ length d → b ≤ l → Same d (take l d) a b
taken_same d l a b h k =
    let n : length (take l d) ≡ l = length-take-le l d h in
    same_sym (rw (take-append-drop l d) at (same_append (take l d) (drop l d) a b (omega arith)))

pub in_between :
    (s d : List ℕ) (n l p : ℕ) → Headed s n → SameJudged s d → 288 ≤ header_end s → 48 ≤ p → p < 56 → (byte_at d p ≡ 0 → ⊥) → header_end s ≤ l →
    l ≤ 16777216 → l ≤ length d → check (take l d) ≡ Err Opened
in_between s d n l p h j e g q z a b c =
    let m : length (take l d) ≡ l = length-take-le l d c in
    let k = judged_then j e (taken_same d l 0 40 c (omega arith)) (taken_same d l 88 (header_end s - 4) c (omega arith)) (omega arith) in
    let y = (taken_same d l p (p + 1) c (omega arith)).each p (omega arith) (omega arith) in
    header_five (take l d) (judged_headed s (take l d) n (length (take l d)) h k (omega arith) (omega arith))
    (opened_byte (take l d) p g q (omega arith) (λ w. z (y ∙ w)))

-- such writes, stopped anywhere, keep what is judged, and byte p
stays_same : (k a b : ℕ) (ws : List Write) (d : List ℕ) → Apart a b ws → b ≤ length d → Same d (stopped k ws d) a b
stays_same k a b ws d p h =
    let n : length (stopped k ws d) ≡ length d = length_stopped k ws d in
    record { in_first = h; in_second = omega arith; each = λ i l m. sym (apart_stays k a b ws d p i l m) }

pub harmless_judged :
    (s d : List ℕ) (k p : ℕ) (ws : List Write) → SameJudged s d → 288 ≤ header_end s → Harmless (header_end s) p ws → SameJudged s (stopped k ws d)
harmless_judged s d k p ws j h w =
    let i = j.in_second in
    judged_then j h (stays_same k 0 40 ws d w.low (omega arith)) (stays_same k 88 (header_end s - 4) ws d w.high (omega arith)) (omega (arith, length_stopped k ws d))

-- writes between one that sets byte p and one that clears it

pub record Between (e p : ℕ) (ws : List Write) : Type 0 where
  pub first : List ℕ
  pub middle : List Write
  pub whole : ws ≡ (one_write p first ++ middle) ++ one_write p (zeros 1)
  pub one_first : length first ≡ 1
  pub set : get_or first 0 0 ≡ 0 → ⊥
  pub harmless : Harmless e p middle

module _ (s b : List ℕ) (n p : ℕ) (ws : List Write) (h : Headed s n) (j : SameJudged s b) (l : 288 ≤ header_end s) (g : 48 ≤ p) (q : p < 56) (w : Between (header_end s) p ws) where
  -- the first write alone

  begun_run : (k : ℕ) → 1 ≤ k → stopped k (one_write p w.first) b ≡ put b p w.first
  unfolding run one_write
  begun_run k i = stopped_all k (one_write p w.first) b (omega (arith, one_count p w.first, w.one_first))

  begun_judged : SameJudged s (put b p w.first)
  begun_judged =
      let i = j.in_second in
      let f = w.one_first in
      let v = w.first in
      judged_then j l (put_same b p v 0 40 (omega arith) (inl (omega arith))) (put_same b p v 88 _ (omega arith) (inr (omega arith))) (omega (arith, length_put b p v))

  begun_byte : byte_at (put b p w.first) p ≡ get_or w.first 0 0
  unfolding byte_at
  begun_byte =
      let i = j.in_second in
      let f = w.one_first in
      let z : p + 0 ≡ p = omega arith in
      ap (λ (x : ℕ). get_or (put b p w.first) x 0) (sym z) ∙ put_each_lem b p w.first 0 (omega arith) (omega arith)

  -- stopped strictly between, it is the first write and some of the middle
  stopped_between : (k : ℕ) → 1 ≤ k → k < store_count ws → stopped k ws b ≡ stopped (k - 1) w.middle (put b p w.first)
  stopped_between k i m =
      let xs = one_write p w.first ++ w.middle in
      let c : store_count ws ≡ store_count xs + store_count (one_write p (zeros 1)) = ap store_count w.whole ∙ count_append xs (one_write p (zeros 1)) in
      let f = one_count p w.first in
      let z = one_count p (zeros 1) in
      let r = zeros_length 1 in
      let o = w.one_first in
      let x : k - store_count xs ≡ 0 = omega arith in
      let y : k - store_count (one_write p w.first) ≡ k - 1 = omega arith in
      ap (λ (v : List Write). stopped k v b) w.whole
      ∙ stopped_append k xs (one_write p (zeros 1)) b
      ∙ ap (λ (v : ℕ). stopped v (one_write p (zeros 1)) (stopped k xs b)) x
      ∙ stopped_none (one_write p (zeros 1)) (stopped k xs b)
      ∙ stopped_append k (one_write p w.first) w.middle b
      ∙ ap (λ (v : ℕ). stopped v w.middle (stopped k (one_write p w.first) b)) y
      ∙ ap (stopped (k - 1) w.middle) (begun_run k i)

  pub between_refused :
      (k : ℕ) → 0 < k → k < store_count ws → (m : ℕ) → header_end s ≤ m → m ≤ 16777216 → m ≤ length b → check (take m (stopped k ws b)) ≡ Err Opened
  between_refused k i c m x y z =
      let d = put b p w.first in
      let e = stopped_between k (omega arith) c in
      let a : byte_at (stopped (k - 1) w.middle d) p ≡ get_or w.first 0 0 = apart_stays (k - 1) p (p + 1) w.middle d w.harmless.mark p (omega arith) (omega arith) ∙ begun_byte in
      rw e
      (in_between s (stopped (k - 1) w.middle d) n m p h (harmless_judged s d (k - 1) p w.middle begun_judged l w.harmless) l g q
      (λ u. w.set (sym a ∙ u)) x y (omega (arith, length_stopped (k - 1) w.middle d, length_put b p w.first)))
