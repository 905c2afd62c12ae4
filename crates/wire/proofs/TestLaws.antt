-- A list of tests passes just where what it says holds; a rule below a number, a test at a time. Assumes nothing.
use Prim.Native.Nat.{ℕ, zero, suc, ◌+◌, ◌≤◌, ◌<◌}
use mathlib.Core.Path.{◌≡◌, refl, sym, ◌∙◌}
use mathlib.Core.List.{List, [], ◌∷◌}
use mathlib.Core.Bool.{Bool, true, false}
use mathlib.Core.Logic.{by_cases}
use native.Mathlib.Decide.{dec_le}
use native.Mathlib.Omega.{arith}
use native.Mathlib.Numerals.{add-one}
use lib.Dec.{eqb}
use borrow.Author.Tests.{leb-true, eqb-true, eqb-false, le-leb, eq-eqb, ne_eqb, not-true}
use Rattle.wire.specs.Tests.{Test, ◌≤?◌, ◌≡?◌, ◌≢?◌, is, is_not, test, both, passes, Says, Holds, all_below, sum_below}

pub not_both : {C : Type 0} {b : Bool} → b ≡ true → b ≡ false → C
not_both p q = let y : ◌≡◌ {A = ℕ} 0 1 = cc in absurd (omega arith)

says : (t : Test) → test t ≡ true → Says t
says (a ≤? b) e = leb-true a b e
says (a ≡? b) e = eqb-true a b e
says (a ≢? b) e = eqb-false a b (not-true _ e)
says (is b) e = e
says (is_not b) e = not-true b e

said : (t : Test) → Says t → test t ≡ true
said (a ≤? b) h = le-leb a b h
said (a ≡? b) h = eq-eqb a b h
said (a ≢? b) h = rw (ne_eqb a b h)
said (is b) h = h
said (is_not b) h = rw h

both_split : (a b : Bool) → both a b ≡ true → (a ≡ true) × (b ≡ true)
both_split true b e = (refl, e)
both_split false b e = not_both e refl

-- what a passed list says
pub means : (l : List Test) → passes l ≡ true → Holds l
unfolding passes
means [] e = tt
means (t ∷ ts) e = let p = both_split (test t) (passes ts) e in (says t p.0, means ts p.1)

-- at a return: yes, and no
pub yes : (l : List Test) → Holds l → true ≡ passes l
unfolding passes
yes [] h = refl
yes (t ∷ ts) h = rw (said t h.0, ← yes ts h.1)

pub no_true : (b : Bool) → (b ≡ true → ⊥) → false ≡ b
no_true true f = absurd (f refl)
no_true false f = refl

pub no : (l : List Test) → (Holds l → ⊥) → false ≡ passes l
no l f = no_true (passes l) (λ e. f (means l e))

pub fails : (l : List Test) → passes l ≡ false → Holds l → ⊥
fails l e h = not_both (sym (yes l h)) e

-- and where the last test's own answer is returned
pub either_way : (l : List Test) (r : Bool) → (r ≡ true → Holds l) → (r ≡ false → Holds l → ⊥) → r ≡ passes l
either_way l true f g = yes l (f refl)
either_way l false f g = no l (g refl)

-- two truth values are one where each gives the other
pub iff : (a b : Bool) → (a ≡ true → b ≡ true) → (b ≡ true → a ≡ true) → a ≡ b
iff true b f g = sym (f refl)
iff false b f g = no_true b (λ e. not_both (g e) refl)

-- a rule of every number below n

pub below_none : (p : ℕ → Bool) → all_below 0 p ≡ true
unfolding all_below
below_none p = refl

pub below_more : (n : ℕ) (p : ℕ → Bool) → all_below n p ≡ true → p n ≡ true → all_below (n + 1) p ≡ true
unfolding all_below
below_more n p e f = rw add-one (sym (yes _ (e, (f, tt))))

pub below_each : (n : ℕ) (p : ℕ → Bool) → all_below n p ≡ true → (i : ℕ) → i < n → p i ≡ true
unfolding all_below
below_each zero p e i h = absurd (omega arith)
below_each (suc n) p e i h = go (eqb i n) refl (below_each n p)
  where
    go : (b : Bool) → eqb i n ≡ b → (all_below n p ≡ true → (j : ℕ) → j < n → p j ≡ true) → p i ≡ true
    go true f r = rw (eqb-true i n f) (means _ e).1.0
    go false f r =
        let d = eqb-false i n f in
        r (means _ e).0 i (omega arith)

pub below_not : (n : ℕ) (p : ℕ → Bool) (i : ℕ) → i < n → p i ≡ false → false ≡ all_below n p
below_not n p i h e = no_true _ (λ z. not_both (below_each n p z i h) e)

-- a rule that each number below n keeps is kept by all
pub below_all : (n : ℕ) (p : ℕ → Bool) → ((i : ℕ) → i < n → p i ≡ true) → all_below n p ≡ true
below_all n p f = go n (omega arith)
  where
    go : (k : ℕ) → k ≤ n → all_below k p ≡ true
    go zero h = below_none p
    go (suc k) h = rw (← add-one k) (below_more k p (go k (omega arith)) (f k (omega arith)))

pub below_same : (n : ℕ) (p q : ℕ → Bool) → ((i : ℕ) → i < n → p i ≡ q i) → all_below n p ≡ all_below n q
unfolding all_below
below_same zero p q e = refl
below_same (suc n) p q e = rw (below_same n p q (λ i h. e i (omega arith)), e n (omega arith))

-- a sum over every number below n

pub sum_none : (f : ℕ → ℕ) → sum_below 0 f ≡ 0
unfolding sum_below
sum_none f = refl

pub sum_more : (n : ℕ) (f : ℕ → ℕ) → sum_below (n + 1) f ≡ sum_below n f + f n
unfolding sum_below
sum_more n f = rw add-one

pub sum_same : (n : ℕ) (f g : ℕ → ℕ) → ((i : ℕ) → i < n → f i ≡ g i) → sum_below n f ≡ sum_below n g
unfolding sum_below
sum_same zero f g e = refl
sum_same (suc n) f g e = rw (sum_same n f g (λ i h. e i (omega arith)), e n (omega arith))

-- below a larger number it is no less, and holds what is added there
pub sum_within : (n : ℕ) (f : ℕ → ℕ) (i : ℕ) → i ≤ n → sum_below i f ≤ sum_below n f
unfolding sum_below
sum_within zero f i h = let z : i ≡ 0 = omega arith in rw z (omega arith)
sum_within (suc n) f i h =
    by_cases (dec_le i n) (λ k. omega (arith, sum_within n f i k)) (λ k. let z : i ≡ suc n = omega arith in rw z (omega arith))

pub sum_each : (n : ℕ) (f : ℕ → ℕ) (i : ℕ) → i < n → sum_below i f + f i ≤ sum_below n f
sum_each n f i h = omega (arith, sum_more i f, sum_within n f (i + 1) (omega arith))

-- a loop over every number below n

module _ (n i : ℕ) (p : ℕ → Bool) (r : Bool) (h : i < n) (q : r ≡ p i) where
  pub each_more : all_below i p ≡ true → r ≡ true → all_below (i + 1) p ≡ true
  each_more e f = below_more i p e (sym q ∙ f)

  pub each_not : r ≡ false → false ≡ all_below n p
  each_not f = below_not n p i h (sym q ∙ f)

pub each_all : (n i : ℕ) (p : ℕ → Bool) → all_below i p ≡ true → i ≤ n → n ≤ i → true ≡ all_below n p
each_all n i p e h k = let m : n ≡ i = omega arith in rw m (sym e)
