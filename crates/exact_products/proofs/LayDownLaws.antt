-- A lay-down: the refusals in their order. Assumes nothing.
use Prim.Native.Nat.{ℕ, zero, suc, ◌+◌, ◌≤◌, ◌<◌}
use mathlib.Core.Path.{◌≡◌, refl, sym}
use mathlib.Core.List.{List, [], ◌∷◌}
use mathlib.Core.Bool.{true, false}
use native.Mathlib.Omega.{arith}
use lib.ListN.{length, get_or}
use Rattle.wire.proofs.TestLaws.{means, yes, no}
use Rattle.answer.specs.Refusals.{gate, unless_refused}
use Rattle.geometry.specs.Tiles.{tile_count}
use Rattle.check_header.specs.Ceilings.{most_file_bytes}
use Rattle.lay_down.specs.Page.{file_length}
use Rattle.lay_down.specs.Answer.{ascending, input_right, length_allowed, fits_in, length_verdict, input_verdict, lay_down_verdict, laid}
use Rattle.exact_products.specs.LayDowns.{GivenRight, LaidExactly}

-- indexes that ascend from `least` on, each below n

record Ascends (n least : ℕ) (ix : List ℕ) : Type 0 where
  each : (j k : ℕ) → j < k → k < length ix → get_or ix j 0 < get_or ix k 0
  from : (k : ℕ) → k < length ix → least ≤ get_or ix k 0
  under : (k : ℕ) → k < length ix → get_or ix k 0 < n

ascends_more : (n least i : ℕ) (rest : List ℕ) → least ≤ i → i + 1 ≤ n → Ascends n (i + 1) rest → Ascends n least (i ∷ rest)
ascends_more n least i rest l b r = record { each = each_of; from = from_of; under = under_of }
  where
    each_of : (j k : ℕ) → j < k → k < length (i ∷ rest) → get_or (i ∷ rest) j 0 < get_or (i ∷ rest) k 0
    each_of j zero h m = absurd (omega arith)
    each_of zero (suc k) h m = let q : k < length rest = omega arith in omega (arith, r.from k q)
    each_of (suc j) (suc k) h m = r.each j k (omega arith) (omega arith)

    from_of : (k : ℕ) → k < length (i ∷ rest) → least ≤ get_or (i ∷ rest) k 0
    from_of zero m = l
    from_of (suc k) m = let q : k < length rest = omega arith in omega (arith, r.from k q)

    under_of : (k : ℕ) → k < length (i ∷ rest) → get_or (i ∷ rest) k 0 < n
    under_of zero m = omega arith
    under_of (suc k) m = r.under k (omega arith)

ascending_means : (n least : ℕ) (ix : List ℕ) → ascending n least ix ≡ true → Ascends n least ix
unfolding ascending
ascending_means n least [] e = record { each = λ j k h m. absurd (omega arith); from = λ k m. absurd (omega arith); under = λ k m. absurd (omega arith) }
ascending_means n least (i ∷ rest) e =
    let m = means _ e in ascends_more n least i rest m.0 m.1.0 (ascending_means n (i + 1) rest m.1.1.0)

ascends_yes : (n least : ℕ) (ix : List ℕ) → Ascends n least ix → ascending n least ix ≡ true
unfolding ascending
ascends_yes n least [] a = refl
ascends_yes n least (i ∷ rest) a =
    sym
    (yes _ (
      a.from 0 (omega arith),
      (
        omega (arith, a.under 0 (omega arith)),
        (
          ascends_yes n (i + 1) rest
              (record {
                each = λ j k h m. a.each (suc j) (suc k) (omega arith) (omega arith);
                from = λ k m. let q : i < get_or rest k 0 = a.each 0 (suc k) (omega arith) (omega arith) in omega arith;
                under = λ k m. a.under (suc k) (omega arith);
              }),
          tt,
        ),
      ),
    ))

module _ (f : List ℕ) (t : ℕ) (ix c : List ℕ) where
  input_yes : GivenRight f t ix c → input_right f t ix c ≡ true
  unfolding input_right
  input_yes w =
      sym
      (yes _
      (w.time, (ascends_yes (tile_count f) 0 ix (record { each = w.ascend; from = λ k m. omega arith; under = w.below }), (w.count, tt))))

  input_no : (GivenRight f t ix c → ⊥) → input_right f t ix c ≡ false
  unfolding input_right
  input_no h =
      sym
      (no _
      (λ p.
      let a = ascending_means (tile_count f) 0 ix p.1.0 in
      h (record { time = p.0; ascend = a.each; below = a.under; count = p.1.1.0 })))

  file_most : file_length f ix ≤ most_file_bytes → length_allowed f ix ≡ true
  unfolding length_allowed
  file_most h = sym (yes _ (h, tt))

  file_over : most_file_bytes < file_length f ix → length_allowed f ix ≡ false
  unfolding length_allowed
  file_over h = sym (no _ (λ p. absurd (omega (arith, p.0))))

  room_fits : (room : ℕ) → file_length f ix ≤ room → fits_in f ix room ≡ true
  unfolding fits_in
  room_fits room h = sym (yes _ (h, tt))

  room_lacks : (room : ℕ) → room < file_length f ix → fits_in f ix room ≡ false
  unfolding fits_in
  room_lacks room h = sym (no _ (λ p. absurd (omega (arith, p.0))))

pub laid_exactly : LaidExactly
unfolding laid lay_down_verdict input_verdict length_verdict gate unless_refused
laid_exactly f t ix c room =
    record {
      front = λ r e. rw e;
      given_wrong = λ a h. rw (a, input_no f t ix c h);
      ceiling = λ a h l. rw (a, input_yes f t ix c h, file_over f t ix c l);
      short = λ a h l m. rw (a, input_yes f t ix c h, file_most f t ix c l, room_lacks f t ix c room m);
      done = λ a h l m. rw (a, input_yes f t ix c h, file_most f t ix c l, room_fits f t ix c room m);
    }
