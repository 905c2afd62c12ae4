-- `all` and `sum` over the numbers from 0 on, as a range gives them. Assumes nothing.
use Prim.Native.Nat.{ℕ, zero, suc, ◌+◌, ◌<◌}
use mathlib.Core.Path.{◌≡◌, refl, sym, ap, ◌∙◌}
use mathlib.Core.List.{List, map}
use mathlib.Core.Bool.{Bool, true, false}
use native.Mathlib.Omega.{arith}
use native.Mathlib.Numerals.{add-one}
use denote.Param.Members.{Mut}
use Rattle.std.specs.Fn.{Called}
use Rattle.std.specs.Option.{MatchOption}
use Rattle.std.specs.Iterator.{YieldsThen}
use Rattle.std.specs.List.{FoldsTo, list_all, range_with_len, sum}
use Rattle.std.specs.declared.option.Option.{Option}
use Rattle.std.specs.declared.ops.Range.{Range}
use Rattle.std.proofs.iter.Yields.{nat_range_steps}
use Rattle.std.proofs.lemmas.Bool.{and_parts, and_from}
use Rattle.std.proofs.lemmas.Iterator.{YieldsList-from_range}
use Rattle.std.proofs.lemmas.Iterator.Search.{all_from_yields_List}
use Rattle.std.proofs.lemmas.List.FromFn.{sum_by-map-range_with_len_more}
use Rattle.wire.specs.Tests.{all_below, sum_below}
use Rattle.wire.proofs.TestLaws.{below_each, below_all, iff, sum_none, sum_more}

module _ (p : ℕ → Bool) where
  range_each : (a n : ℕ) → list_all p (range_with_len a n) ≡ true → (i j : ℕ) → i < n → j ≡ a + i → p j ≡ true
  range_each a zero e i j h k = absurd (omega arith)
  range_each a (suc n) e zero j h k = let s : j ≡ a = omega arith in rw s (and_parts _ _ e).0
  range_each a (suc n) e (suc i) j h k = range_each (a + 1) n (and_parts _ _ e).1 i j (omega arith) (omega arith)

  range_all : (a n : ℕ) → ((j : ℕ) → j < a + n → p j ≡ true) → list_all p (range_with_len a n) ≡ true
  range_all a zero f = refl
  range_all a (suc n) f = and_from _ _ (f a (omega arith)) (range_all (a + 1) n (λ j h. f j (omega arith)))

  -- `all` over the numbers below n
  pub range_below : (n : ℕ) → list_all p (range_with_len 0 n) ≡ all_below n p
  range_below n = iff _ _ (λ e. below_all n p (λ i h. range_each 0 n e i i h (omega arith))) (λ e. range_all 0 n (λ j h. below_each n p e j (omega arith)))

-- what `(0..n).all(..)` gives, where the closure asks p; the last two facts are `refl` and `λ x b q k. search rules`
pub all_range : {F : Type 0} {g : Mut F (ℕ × Unit {0}) Bool} (u : Range ℕ) (f : F) (r : Bool) (n : ℕ) (p : ℕ → Bool) (s : Range ℕ)
    → (xs : List ℕ) × (o : Option ℕ) × (j : F) × YieldsThen nat_range_steps s xs o u × FoldsTo (λ p x q. Called g p (x, tt) true q) f xs j × MatchOption o (r ≡ true) (λ x. (r ≡ false) × ((h : F) × Called g j (x, tt) false h))
    → s ≡ record { start = 0; end = n } → ((x : ℕ) (b : Bool) (q : F) → Called g f (x, tt) b q → (q ≡ f) × (b ≡ p x)) → r ≡ all_below n p
all_range u f r n p s ran e k = all_from_yields_List p u f r ran (YieldsList-from_range 0 n n e (omega arith)) k ∙ range_below p n

module _ (f : ℕ → ℕ) where
  -- the sum of what a map gives of them
  pub range_sum : (n : ℕ) → sum (map f (range_with_len 0 n)) ≡ sum_below n f
  range_sum zero = sym (sum_none f)
  range_sum (suc n) =
      ap (λ (k : ℕ). sum (map f (range_with_len 0 k))) (sym (add-one n))
      ∙ sum_by-map-range_with_len_more (λ x. x) f 0 n n (omega arith)
      ∙ ap (λ (k : ℕ). k + f n) (range_sum n)
      ∙ sym (sum_more n f)
      ∙ ap (λ (k : ℕ). sum_below k f) (add-one n)
