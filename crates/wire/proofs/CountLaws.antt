-- Counts of what a rule holds of, and records that entries name, each once. Assumes nothing.
use Prim.Native.Nat.{ℕ, zero, suc, ◌+◌, ◌≤◌, ◌<◌}
use mathlib.Core.Path.{◌≡◌, refl, sym}
use mathlib.Core.List.{List, [], ◌∷◌}
use mathlib.Core.Bool.{Bool, true, false, ◌||◌}
use native.Mathlib.Omega.{arith}
use native.Mathlib.Numerals.{add-one}
use lib.ListN.{length}
use lib.Dec.{eqb}
use borrow.Author.Tests.{eqb-true, eqb-false}
use Rattle.wire.proofs.TestLaws.{not_both}
use Rattle.wire.specs.Lists.{every, some, one_if, count_below}
use Rattle.wire.proofs.ListLaws.{Behind, every_each}

-- a count below n

pub count_none : (p : ℕ → Bool) → count_below 0 p ≡ 0
unfolding count_below
count_none p = refl

module _ (n : ℕ) (p : ℕ → Bool) where
  pub count_more : p n ≡ true → count_below (n + 1) p ≡ count_below n p + 1
  unfolding count_below one_if
  count_more e = rw (add-one, e)

  pub count_stay : p n ≡ false → count_below (n + 1) p ≡ count_below n p
  unfolding count_below one_if
  count_stay e = rw (add-one, e) (omega arith)

-- 1 or 0 by a test

pub one_yes : (b : Bool) → b ≡ true → (1 ≡ one_if b) × (1 ≤ 1)
unfolding one_if
one_yes b e = (rw e, omega arith)

pub one_no : (b : Bool) → b ≡ false → (0 ≡ one_if b) × (0 ≤ 1)
unfolding one_if
one_no b e = (rw e, omega arith)

-- a loop over every number below n

pub record Counted (n : ℕ) (p : ℕ → Bool) (k found : ℕ) : Type 0 where
  pub same : found ≡ count_below k p
  pub inside : k ≤ n

pub counted_none : (n : ℕ) (p : ℕ → Bool) → Counted n p 0 0
counted_none n p = record { same = sym (count_none p); inside = omega arith }

pub counted_more : (n : ℕ) (p : ℕ → Bool) (k found r : ℕ) → Counted n p k found → r ≡ one_if (p k) → k < n → Counted n p (k + 1) (found + r)
unfolding count_below
counted_more n p k found r c q h =
    let e : count_below (k + 1) p ≡ count_below k p + one_if (p k) = rw add-one in
    record { same = omega (arith, c.same, e); inside = omega arith }

pub counted_all : (n : ℕ) (p : ℕ → Bool) (k found m : ℕ) → Counted n p k found → n ≤ k → m ≡ n → found ≡ count_below m p
counted_all n p k found m c h e = let f : m ≡ k = omega (arith, c.inside) in rw f c.same

pub ruleset counting = (counted_none, counted_more, counted_all)

-- by the next number's answer
by_next : {C : Type 0} (n : ℕ) (p : ℕ → Bool) → (p n ≡ true → count_below (suc n) p ≡ count_below n p + 1 → C) → (p n ≡ false → count_below (suc n) p ≡ count_below n p → C) → C
by_next {C} n p f g = go (p n) refl
  where
    go : (b : Bool) → p n ≡ b → C
    go true e = f e (rw (← add-one n) (count_more n p e))
    go false e = g e (rw (← add-one n) (count_stay n p e))

pub count_most : (n : ℕ) (p : ℕ → Bool) → count_below n p ≤ n
count_most zero p = rw (count_none p) (omega arith)
count_most (suc n) p = let h = count_most n p in by_next n p (λ e f. omega arith) (λ e f. omega arith)

pub counted_few : (n : ℕ) (p : ℕ → Bool) (k found : ℕ) → Counted n p k found → found ≤ k
counted_few n p k found c = omega (arith, c.same, count_most k p)

pub count_all : (n : ℕ) → count_below n (λ k. true) ≡ n
count_all zero = count_none (λ k. true)
count_all (suc n) = let h = count_all n in by_next n (λ k. true) (λ e f. omega arith) (λ e f. not_both refl e)

-- a rule that is kept wherever another is
module _ (p q : ℕ → Bool) (gives : (k : ℕ) → q k ≡ true → p k ≡ true) where
  pub count_less : (n : ℕ) → count_below n q ≤ count_below n p
  count_less zero = rw (count_none p, count_none q) (omega arith)
  count_less (suc n) =
      let h = count_less n in
      by_next n p (λ a b. by_next n q (λ c d. omega arith) (λ c d. omega arith))
      (λ a b. by_next n q (λ c d. not_both (gives n c) a) (λ c d. omega arith))

  -- counted alike, they are kept alike
  pub count_both : (n : ℕ) → count_below n p ≡ count_below n q → (k : ℕ) → k < n → p k ≡ true → q k ≡ true
  count_both zero e k h f = absurd (omega arith)
  count_both (suc n) e k h f = go (eqb k n) refl (count_both n)
    where
      l : count_below n q ≤ count_below n p
      l = count_less n

      go : (b : Bool) → eqb k n ≡ b → (count_below n p ≡ count_below n q → (j : ℕ) → j < n → p j ≡ true → q j ≡ true) → q k ≡ true
      go true m r =
          let i = eqb-true k n m in
          by_next n q (λ c d. rw i c) (λ c d. by_next n p (λ a b. absurd (omega (arith, l))) (λ a b. not_both (rw (← i) f) a))
      go false m r =
          let i = eqb-false k n m in
          r
          (by_next n p (λ a b. by_next n q (λ c d. omega arith) (λ c d. absurd (omega (arith, l))))
          (λ a b. by_next n q (λ c d. not_both (gives n c) a) (λ c d. omega arith)))
          k (omega arith) f

pub count_same : (n : ℕ) (p q : ℕ → Bool) → ((k : ℕ) → k < n → p k ≡ q k) → count_below n p ≡ count_below n q
unfolding count_below
count_same zero p q e = refl
count_same (suc n) p q e = rw (count_same n p q (λ k h. e k (omega arith)), e n (omega arith))

-- one of two rules that are never kept together
pub count_either :
    (n : ℕ) (p q : ℕ → Bool) → ((k : ℕ) → p k ≡ true → q k ≡ false) → count_below n (λ k. p k || q k) ≡ count_below n p + count_below n q
unfolding count_below one_if
count_either zero p q e = refl
count_either (suc n) p q e = go (p n) refl (q n) refl (count_either n p q e)
  where
    go :
        (a : Bool) → p n ≡ a → (b : Bool) → q n ≡ b → count_below n (λ k. p k || q k) ≡ count_below n p + count_below n q →
        count_below n (λ k. p k || q k) + one_if (p n || q n) ≡ (count_below n p + one_if (p n)) + (count_below n q + one_if (q n))
    go true f true g r = not_both g (e n f)
    go true f false g r = rw (f, g) (omega arith)
    go false f true g r = rw (f, g) (omega arith)
    go false f false g r = rw (f, g) (omega arith)

-- a rule that one number keeps, and no other
pub count_one : (n : ℕ) (p : ℕ → Bool) (i : ℕ) → i < n → p i ≡ true → ((k : ℕ) → p k ≡ true → k ≡ i) → count_below n p ≡ 1
count_one zero p i h e f = absurd (omega arith)
count_one (suc n) p i h e f = go (eqb i n) refl (count_one n p i)
  where
    none : (m : ℕ) → m ≤ i → count_below m p ≡ 0
    none zero l = count_none p
    none (suc m) l = let z = none m (omega arith) in by_next m p (λ c d. let y = f m c in absurd (omega arith)) (λ c d. omega arith)

    go : (b : Bool) → eqb i n ≡ b → (i < n → p i ≡ true → ((k : ℕ) → p k ≡ true → k ≡ i) → count_below n p ≡ 1) → count_below (suc n) p ≡ 1
    go true m r =
        let j = eqb-true i n m in
        let z = none n (omega arith) in
        by_next n p (λ c d. omega arith) (λ c d. not_both (rw (← j) e) c)
    go false m r =
        let j = eqb-false i n m in
        let z = r (omega arith) e f in
        by_next n p (λ c d. let y = f n c in absurd (j (sym y))) (λ c d. omega arith)

-- entries below n that name records of an increasing list: an entry names one record at most

module _ (n : ℕ) (names : ℕ → ℕ → Bool) (alone : (x y k : ℕ) → names x k ≡ true → names y k ≡ true → x ≡ y) where
  apart : (x a k : ℕ) (l : List ℕ) → names x k ≡ true → x < a → Behind a l → some (λ y. names y k) l ≡ false
  unfolding some
  apart x a k [] e h i = refl
  apart x a k (y ∷ ys) e h i = go (names y k) refl (apart x (y + 1) k ys e (omega (arith, i.0)) i.1)
    where
      go : (b : Bool) → names y k ≡ b → some (λ z. names z k) ys ≡ false → (names y k || some (λ z. names z k) ys) ≡ false
      go true f r = let j = alone x y k e f in absurd (omega (arith, i.0))
      go false f r = rw f r

  -- where each record is named once, as many entries name one as there are records
  pub count_named : (a : ℕ) (l : List ℕ) → Behind a l → every (λ x. eqb (count_below n (names x)) 1) l ≡ true → count_below n (λ k. some (λ x. names x k) l) ≡ length l
  unfolding some
  count_named a [] i e = go n
    where
      go : (m : ℕ) → count_below m (λ k. false) ≡ 0
      go zero = count_none (λ k. false)
      go (suc m) = let z = go m in by_next m (λ k. false) (λ c d. not_both c refl) (λ c d. omega arith)
  count_named a (x ∷ xs) i e =
      every_each (λ x. eqb (count_below n (names x)) 1) x xs e
      (λ f g.
      let o = eqb-true (count_below n (names x)) 1 f in
      let r = count_named (x + 1) xs i.1 g in
      let t = count_either n (names x) (λ k. some (λ z. names z k) xs) (λ k h. apart x (x + 1) k xs h (omega arith) i.1) in
      omega arith)
