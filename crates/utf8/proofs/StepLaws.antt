-- One byte more, and the loop. Assumes nothing.
use Prim.Native.Nat.{ℕ, zero, suc, ◌+◌, ◌-◌, ◌≤◌, ◌<◌}
use mathlib.Core.Path.{◌≡◌, refl, ◌∙◌}
use mathlib.Core.List.{List, [], ◌∷◌}
use mathlib.Core.Bool.{Bool, true, false}
use borrow.Author.Tests.{ne_eqb}
use native.Mathlib.Omega.{arith}
use native.Mathlib.Numerals.{add-one}
use lib.ListN.{length, get_or, drop, drop_of_length-le}
use lib.Seq.{drop-cons}
use Rattle.std.specs.Prelude.{nat_eq}
use Rattle.utf8.specs.Utf8.{octet, tail, rows, never, following, goes_on, utf8}
use Rattle.utf8.specs.inner.Wanted.{tails, wanted_of}
use Rattle.utf8.proofs.OctetLaws.{octet_out}

-- no bytes go on with what no byte is
pub nothing_is : (bs : List ℕ) → goes_on (never ∷ []) bs ≡ false
unfolding goes_on never
nothing_is [] = refl
nothing_is (b ∷ bs) = rw (octet_out 1 0 b (omega arith))

wanted_more : (left : ℕ) (p : ℕ → Bool) → (left ≡ 0 → ⊥) → wanted_of left p ≡ p ∷ tails (left - 1)
unfolding wanted_of
wanted_more zero p n = absurd (n refl)
wanted_more (suc m) p n = let e : suc m - 1 ≡ m = omega arith in rw e

wanted_tails : (n : ℕ) → wanted_of n (octet 0x80 0xBF) ≡ tails n
unfolding wanted_of tails tail
wanted_tails zero = refl
wanted_tails (suc n) = refl

module _ (b left : ℕ) (bs : List ℕ) where
  pub step_lead : (p : ℕ → Bool) (w : List (ℕ → Bool)) → left ≡ 0 → w ≡ following b rows → goes_on w bs ≡ goes_on (wanted_of left p) (b ∷ bs)
  unfolding goes_on wanted_of
  step_lead p w e f = rw (e, f)

  module _ (n : left ≡ 0 → ⊥) where
    pub step_out : (p : ℕ → Bool) → p b ≡ false → goes_on (wanted_of 1 (octet 1 0)) bs ≡ goes_on (wanted_of left p) (b ∷ bs)
    unfolding goes_on wanted_of tails never
    step_out p e = rw (wanted_more left p n, e) (nothing_is bs)

    pub step_in : (p : ℕ → Bool) → p b ≡ true → goes_on (wanted_of (left - 1) (octet 0x80 0xBF)) bs ≡ goes_on (wanted_of left p) (b ∷ bs)
    unfolding goes_on
    step_in p e = rw (wanted_more left p n, e, wanted_tails (left - 1))

-- the loop: the octets that are wanted, and the bytes of s from i on are still to come

unfoldable pub goes_from : List (ℕ → Bool) → List ℕ → ℕ → Bool
goes_from w s i = goes_on w (drop i s)

pub loop_begin : (p : ℕ → Bool) (s : List ℕ) → goes_from (wanted_of 0 p) s 0 ≡ utf8 s
unfolding goes_from utf8 wanted_of
loop_begin p s = refl

pub loop_step :
    (v w : List (ℕ → Bool)) (s : List ℕ) (i x : ℕ) → i < length s → x ≡ get_or s i 0 → ((bs : List ℕ) → goes_on v bs ≡ goes_on w (x ∷ bs)) →
    goes_from v s (i + 1) ≡ goes_from w s i
unfolding goes_from
loop_step v w s i x h e f = rw (add-one, drop-cons s i 0, ← e) (f (drop (suc i) s))

-- where all bytes are read, they are UTF-8 just if none is wanted
pub loop_end : (p : ℕ → Bool) (left : ℕ) (s : List ℕ) (i : ℕ) → goes_from (wanted_of left p) s i ≡ utf8 s → length s ≤ i → nat_eq left 0 ≡ utf8 s
unfolding goes_from goes_on wanted_of
loop_end p zero s i e h = rw (drop_of_length-le s h) at e
loop_end p (suc left) s i e h = ne_eqb (suc left) 0 (λ z. omega arith) ∙ rw (drop_of_length-le s h) at e
