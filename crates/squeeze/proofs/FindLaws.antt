-- The search by halving. Assumes nothing.
use Prim.Native.Nat.{ℕ, zero, suc, ◌+◌, ◌/◌, ◌%◌, ◌≤◌, ◌<◌}
use mathlib.Core.Path.{◌≡◌, refl, sym, ap, ◌∙◌}
use mathlib.Core.List.{List, [], ◌∷◌}
use mathlib.Core.Logic.{by_cases}
use native.Mathlib.Decide.{dec_le}
use native.Mathlib.Omega.{arith}
use lib.ListN.{length, get_or}
use borrow.Author.Tests.{eq-eqb, ne_eqb}
use Rattle.plans.specs.Moved.{old_in, new_in, named_in, Ascend}

-- what c may still be: neither below low nor from high on
pub record Between (zs : List ℕ) (c low high : ℕ) : Type 0 where
  pub order : low ≤ high
  pub inside : high ≤ length zs
  pub before : (i : ℕ) → i < low → old_in (get_or zs i 0) + 8 < c
  pub behind : (i : ℕ) → high ≤ i → i < length zs → c < old_in (get_or zs i 0) + 8

pub between_all : (zs : List ℕ) (c : ℕ) → Between zs c 0 (length zs)
between_all zs c =
    record { order = omega arith; inside = omega arith; before = λ i h. absurd (omega arith); behind = λ i h g. absurd (omega arith) }

-- no start is c: there is none
none_named : (zs : List ℕ) (c : ℕ) → ((i : ℕ) → i < length zs → old_in (get_or zs i 0) + 8 ≡ c → ⊥) → named_in zs c ≡ 0
unfolding named_in
none_named [] c f = refl
none_named (z ∷ zs) c f =
    rw (ne_eqb (old_in z + 8) c (f 0 (omega arith))) (none_named zs c (λ i h. f (suc i) (omega arith)))

-- the first whose start is c
first_named :
    (zs : List ℕ) (c i : ℕ) → i < length zs → old_in (get_or zs i 0) + 8 ≡ c → ((j : ℕ) → j < i → old_in (get_or zs j 0) + 8 ≡ c → ⊥) →
    named_in zs c ≡ new_in (get_or zs i 0) + 8
unfolding named_in
first_named [] c i h e f = absurd (omega arith)
first_named (z ∷ zs) c zero h e f = rw (eq-eqb (old_in z + 8) c e)
first_named (z ∷ zs) c (suc i) h e f =
    rw (ne_eqb (old_in z + 8) c (f 0 (omega arith))) (first_named zs c i (omega arith) e (λ j g. f (suc j) (omega arith)))

pub find_low : (zs : List ℕ) (c : ℕ) → c < 8 → 0 ≡ named_in zs c
find_low zs c h = sym (none_named zs c (λ i g e. omega arith))

module _ {zs : List ℕ} (a : Ascend zs) {c low high : ℕ} (b : Between zs c low high) where
  pub find_none : high ≤ low → 0 ≡ named_in zs c
  find_none h =
      sym
      (none_named zs c
      (λ i g e.
      by_cases (dec_le high i) (λ m. let x = b.behind i m g in omega arith)
      (λ m. let x = b.before i (omega (arith, b.order)) in omega arith)))

  module _ (i z old : ℕ) (l : low ≤ i) (h : i < high) (e : z ≡ get_or zs i 0) (f : old ≡ z / 4294967296) where
    there : old ≡ old_in (get_or zs i 0)
    unfolding old_in
    there = f ∙ ap (λ (x : ℕ). x / 4294967296) e

    low_is : z % 4294967296 + 8 ≡ new_in (get_or zs i 0) + 8
    unfolding new_in
    low_is = ap (λ (x : ℕ). x % 4294967296 + 8) e

    pub find_hit : old + 8 ≡ c → z % 4294967296 + 8 ≡ named_in zs c
    find_hit g =
        let t = there in
        let y = b.inside in
        let n : new_in (get_or zs i 0) + 8 ≡ named_in zs c =
        sym (first_named zs c i (omega arith) (omega arith) (λ j k q. let x = a.up j i k (omega arith) in omega arith)) in
        low_is ∙ n

    pub find_up : old + 8 < c → Between zs c (i + 1) high
    find_up g =
        let t = there in
        let y = b.inside in
        record {
          order = omega arith;
          inside = y;
          before =
              λ j k.
              by_cases (dec_le i j) (λ m. let q : j ≡ i = omega arith in rw q (omega arith)) (λ m. let x = a.up j i (omega arith) (omega arith) in omega arith);
          behind = b.behind;
        }

    pub find_down : c < old + 8 → Between zs c low i
    find_down g =
        let t = there in
        let y = b.inside in
        record {
          order = l;
          inside = omega arith;
          before = b.before;
          behind =
              λ j m q.
              by_cases (dec_le j i) (λ x. let r : j ≡ i = omega arith in rw r (omega arith)) (λ x. let u = a.up i j (omega arith) q in omega arith);
        }
