-- Indexes that are strictly ascending, one by one. Assumes nothing.
use Prim.Native.Nat.{ℕ, zero, suc, ◌+◌, ◌≤◌, ◌<◌}
use mathlib.Core.Path.{◌≡◌, refl, sym, ap, ◌∙◌}
use mathlib.Core.List.{List, [], ◌∷◌}
use mathlib.Core.Bool.{Bool, true, false}
use native.Mathlib.Omega.{arith}
use native.Mathlib.Numerals.{add-one}
use lib.ListN.{length, get_or, drop, drop_of_length-le}
use lib.Seq.{drop-cons}
use borrow.Author.Tests.{le-leb}
use Rattle.wire.specs.Tests.{both, passes}
use Rattle.wire.proofs.TestLaws.{means, no_true}
use Rattle.lay_down.specs.Answer.{ascending}

self : (b : Bool) → b ≡ both b true
self true = refl
self false = refl

-- the loop: what is still to be judged
module _ (n least : ℕ) (ix : List ℕ) (i : ℕ) (b : Bool) (p : ascending n least (drop i ix) ≡ b) where
  pub ascending_low : i < length ix → get_or ix i 0 < least → false ≡ b
  unfolding ascending
  ascending_low h k = rw (drop-cons ix i 0 h) (no_true _ (λ e. absurd (omega (arith, (means _ e).0)))) ∙ p

  pub ascending_high : i < length ix → n ≤ get_or ix i 0 → false ≡ b
  unfolding ascending
  ascending_high h k = rw (drop-cons ix i 0 h) (no_true _ (λ e. absurd (omega (arith, (means _ e).1.0)))) ∙ p

  pub ascending_more : i < length ix → least ≤ get_or ix i 0 → get_or ix i 0 < n → ascending n (get_or ix i 0 + 1) (drop (i + 1) ix) ≡ b
  unfolding ascending passes
  ascending_more h k m =
      let x = le-leb least (get_or ix i 0) k in
      let y = le-leb (get_or ix i 0 + 1) n (omega arith) in
      rw (add-one i, drop-cons ix i 0 h, x, y) (self _) ∙ p

  pub ascending_end : length ix ≤ i → true ≡ b
  unfolding ascending
  ascending_end h = ap (ascending n least) (sym (drop_of_length-le ix h)) ∙ p

-- the indexes one by one: each is below n and at least as much more than `least` as there stand before it
pub ascending_each : (n least : ℕ) (ix : List ℕ) → ascending n least ix ≡ true → (k : ℕ) → k < length ix → (least + k ≤ get_or ix k 0) × (get_or ix k 0 < n)
unfolding ascending
ascending_each n least [] e k h = absurd (omega arith)
ascending_each n least (i ∷ rest) e zero h = let m = means _ e in (omega (arith, m.0), omega (arith, m.1.0))
ascending_each n least (i ∷ rest) e (suc k) h =
    let m = means _ e in
    let r = ascending_each n (i + 1) rest m.1.1.0 k (omega arith) in
    (omega (arith, m.0, r.0), r.1)

-- so there are at most n of them
pub ascending_few : (n : ℕ) (ix : List ℕ) → ascending n 0 ix ≡ true → length ix ≤ n
ascending_few n [] e = omega arith
ascending_few n (i ∷ rest) e =
    let r = ascending_each n 0 (i ∷ rest) e (length rest) (omega arith) in
    omega (arith, r.0, r.1)

-- and any two are in order
pub ascending_order : (n least : ℕ) (ix : List ℕ) → ascending n least ix ≡ true → (j k : ℕ) → j < k → k < length ix → get_or ix j 0 < get_or ix k 0
unfolding ascending
ascending_order n least [] e j k h m = absurd (omega arith)
ascending_order n least (i ∷ rest) e j zero h m = absurd (omega arith)
ascending_order n least (i ∷ rest) e zero (suc k) h m =
    let r = ascending_each n (i + 1) rest (means _ e).1.1.0 k (omega arith) in
    omega (arith, r.0)
ascending_order n least (i ∷ rest) e (suc j) (suc k) h m = ascending_order n (i + 1) rest (means _ e).1.1.0 j k (omega arith) (omega arith)
