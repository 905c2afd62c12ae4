-- Rules over a list of numbers, and its members; lists that increase; a function of the numbers below a bound. Assumes nothing.
use Prim.Native.Nat.{ℕ, zero, suc, ◌+◌, ◌≤◌, ◌<◌}
use mathlib.Core.Path.{◌≡◌, refl, sym, ap, ◌∙◌}
use mathlib.Core.List.Memᴰ
use mathlib.Core.List.{List, [], ◌∷◌, ◌++◌, map, Memᴰ}
use mathlib.Core.Logic.{◌⊎◌, ⊎_elim}
use mathlib.Core.Bool.{Bool, true, false, ◌||◌}
use native.Mathlib.Omega.{arith}
use lib.ListN.{length, get_or}
use lib.Dec.{eqb}
use borrow.Author.Tests.{eqb-true, eqb-false}
use Rattle.wire.specs.Pick.{pick}
use Rattle.wire.specs.Lists.{select, every, some, below}
use Rattle.wire.proofs.TestLaws.{means, yes, not_both}

-- every number of a list that keeps a rule

pub every_each : {C : Type 0} (p : ℕ → Bool) (x : ℕ) (xs : List ℕ) → every p (x ∷ xs) ≡ true → (p x ≡ true → every p xs ≡ true → C) → C
unfolding every
every_each p x xs e f = let h = means _ e in f h.0 h.1.0

pub every_member : (p : ℕ → Bool) (l : List ℕ) → every p l ≡ true → {x : ℕ} → Memᴰ x l → p x ≡ true
every_member p [] e m = absurd (Memᴰ.not-nil m)
every_member p (y ∷ ys) e {x} m =
    every_each p y ys e (λ a b. ⊎_elim (λ h. ap p h ∙ a) (λ k. every_member p ys b k) (Memᴰ.cases_cons m))

pub member_every : (p : ℕ → Bool) (l : List ℕ) → ((x : ℕ) → Memᴰ x l → p x ≡ true) → every p l ≡ true
unfolding every
member_every p [] f = refl
member_every p (y ∷ ys) f = sym (yes _ (f y (Memᴰ.head refl), (member_every p ys (λ x m. f x (Memᴰ.tail m)), tt)))

pub some_member : (C : Type 0) (p : ℕ → Bool) (l : List ℕ) → some p l ≡ true → ((x : ℕ) → Memᴰ x l → p x ≡ true → C) → C
unfolding some
some_member C p [] e f = not_both e refl
some_member C p (y ∷ ys) e f = go (p y) refl (some_member C p ys)
  where
    go : (b : Bool) → p y ≡ b → (some p ys ≡ true → ((x : ℕ) → Memᴰ x ys → p x ≡ true → C) → C) → C
    go true i r = f y (Memᴰ.head refl) i
    go false i r = r (rw i at e) (λ x m. f x (Memᴰ.tail m))

pub member_some : (p : ℕ → Bool) (l : List ℕ) {x : ℕ} → Memᴰ x l → p x ≡ true → some p l ≡ true
unfolding some
member_some p [] m e = absurd (Memᴰ.not-nil m)
member_some p (y ∷ ys) {x} m e = go (p y) refl (Memᴰ.cases_cons m) (λ k. member_some p ys k e)
  where
    go : (b : Bool) → p y ≡ b → (x ≡ y) ⊎ Memᴰ x ys → (Memᴰ x ys → some p ys ≡ true) → (p y || some p ys) ≡ true
    go true i c r = rw i
    go false i c r = rw i (⊎_elim (λ h. not_both (ap p (sym h) ∙ e) i) r c)

-- those that a rule selects

pub select_member : (p : ℕ → Bool) (l : List ℕ) {x : ℕ} → Memᴰ x (select p l) → Memᴰ x l × (p x ≡ true)
unfolding select
select_member p [] m = absurd (Memᴰ.not-nil m)
select_member p (y ∷ ys) {x} m = go (p y) refl m (λ k. select_member p ys k)
  where
    go :
        (b : Bool) → p y ≡ b → Memᴰ x (pick b (y ∷ select p ys) (select p ys)) →
        (Memᴰ x (select p ys) → Memᴰ x ys × (p x ≡ true)) → Memᴰ x (y ∷ ys) × (p x ≡ true)
    go true i k r =
        ⊎_elim (λ h. (Memᴰ.head h, ap p h ∙ i)) (λ n. (Memᴰ.tail (r n).0, (r n).1)) (Memᴰ.cases_cons k)
    go false i k r = (Memᴰ.tail (r k).0, (r k).1)

pub member_select : (p : ℕ → Bool) (l : List ℕ) {x : ℕ} → Memᴰ x l → p x ≡ true → Memᴰ x (select p l)
unfolding select
member_select p [] m e = absurd (Memᴰ.not-nil m)
member_select p (y ∷ ys) {x} m e = go (p y) refl (Memᴰ.cases_cons m) (λ k. member_select p ys k e)
  where
    go :
        (b : Bool) → p y ≡ b → (x ≡ y) ⊎ Memᴰ x ys → (Memᴰ x ys → Memᴰ x (select p ys)) →
        Memᴰ x (pick b (y ∷ select p ys) (select p ys))
    go true i c r = ⊎_elim (λ h. Memᴰ.head h) (λ k. Memᴰ.tail (r k)) c
    go false i c r = ⊎_elim (λ h. not_both (ap p (sym h) ∙ e) i) r c

pub select_append : (p : ℕ → Bool) (l m : List ℕ) → select p (l ++ m) ≡ select p l ++ select p m
unfolding select
select_append p [] m = refl
select_append p (x ∷ xs) m = go (p x) (select_append p xs m)
  where
    go :
        (b : Bool) → select p (xs ++ m) ≡ select p xs ++ select p m →
        pick b (x ∷ select p (xs ++ m)) (select p (xs ++ m)) ≡ pick b (x ∷ select p xs) (select p xs) ++ select p m
    go true r = ap (λ (l : List ℕ). x ∷ l) r
    go false r = r

pub select_all : (p : ℕ → Bool) (l : List ℕ) → ((x : ℕ) → Memᴰ x l → p x ≡ true) → select p l ≡ l
unfolding select
select_all p [] f = refl
select_all p (x ∷ xs) f = rw (f x (Memᴰ.head refl)) (ap (λ (l : List ℕ). x ∷ l) (select_all p xs (λ y m. f y (Memᴰ.tail m))))

pub select_none : (p : ℕ → Bool) (l : List ℕ) → ((x : ℕ) → Memᴰ x l → p x ≡ false) → select p l ≡ []
unfolding select
select_none p [] f = refl
select_none p (x ∷ xs) f = rw (f x (Memᴰ.head refl)) (select_none p xs (λ y m. f y (Memᴰ.tail m)))

-- a rule that another gives

pub every_some : (p q r : ℕ → Bool) (l : List ℕ) → ((x : ℕ) → p x ≡ true → q x ≡ true → r x ≡ true) → every p l ≡ true → some q l ≡ true → some r l ≡ true
unfolding some
every_some p q r [] f e g = g
every_some p q r (x ∷ xs) f e g = every_each p x xs e (λ a b. go (q x) refl (r x) refl a (every_some p q r xs f b))
  where
    go : (c : Bool) → q x ≡ c → (d : Bool) → r x ≡ d → p x ≡ true → (some q xs ≡ true → some r xs ≡ true) → (r x || some r xs) ≡ true
    go true i d j a k = rw (f x a i)
    go false i true j a k = rw j
    go false i false j a k = rw j (k (rw i at g))

pub every_more : (p q : ℕ → Bool) (l : List ℕ) → ((x : ℕ) → p x ≡ true → q x ≡ true) → every p l ≡ true → every q l ≡ true
unfolding every
every_more p q [] f e = refl
every_more p q (x ∷ xs) f e = every_each p x xs e (λ a b. sym (yes _ (f x a, (every_more p q xs f b, tt))))

pub some_gives : (C : Type 0) (p : ℕ → Bool) (l : List ℕ) → some p l ≡ true → ((x : ℕ) → p x ≡ true → C) → C
unfolding some
some_gives C p [] e f = not_both e refl
some_gives C p (x ∷ xs) e f = go (p x) refl (some_gives C p xs)
  where
    go : (b : Bool) → p x ≡ b → (some p xs ≡ true → ((y : ℕ) → p y ≡ true → C) → C) → C
    go true i r = f x i
    go false i r = r (rw i at e) f

-- lists that increase: each number behind the one before it, the first at `at` or behind it

abbrev pub Behind : ℕ → List ℕ → Type 0
Behind at [] = Unit {0}
Behind at (x ∷ xs) = (at ≤ x) × Behind (x + 1) xs

pub behind_more : (a b : ℕ) (l : List ℕ) → a ≤ b → Behind b l → Behind a l
behind_more a b [] h i = tt
behind_more a b (x ∷ xs) h i = (omega (arith, i.0), i.1)

-- those selected from a list that increases increase

pub behind_select : (p : ℕ → Bool) (a : ℕ) (l : List ℕ) → Behind a l → Behind a (select p l)
unfolding select
behind_select p a [] i = tt
behind_select p a (x ∷ xs) i = go (p x) (behind_select p (x + 1) xs i.1)
  where
    go : (b : Bool) → Behind (x + 1) (select p xs) → Behind a (pick b (x ∷ select p xs) (select p xs))
    go true r = (i.0, r)
    go false r = behind_more a (x + 1) (select p xs) (omega (arith, i.0)) r

-- a function of the numbers below n, by its place

length_snoc : (l : List ℕ) (x : ℕ) → length (l ++ (x ∷ [])) ≡ suc (length l)
length_snoc [] x = refl
length_snoc (y ∷ ys) x = ap suc (length_snoc ys x)

map_snoc : (f : ℕ → ℕ) (l : List ℕ) (x : ℕ) → map f (l ++ (x ∷ [])) ≡ map f l ++ (f x ∷ [])
map_snoc f [] x = refl
map_snoc f (y ∷ ys) x = ap (λ (l : List ℕ). f y ∷ l) (map_snoc f ys x)

snoc_at : (l : List ℕ) (x i : ℕ) → (i < length l → get_or (l ++ (x ∷ [])) i 0 ≡ get_or l i 0) × (i ≡ length l → get_or (l ++ (x ∷ [])) i 0 ≡ x)
snoc_at [] x zero = ((λ h. absurd (omega arith)), (λ h. refl))
snoc_at [] x (suc i) = ((λ h. absurd (omega arith)), (λ h. absurd (omega arith)))
snoc_at (y ∷ ys) x zero = ((λ h. refl), (λ h. absurd (omega arith)))
snoc_at (y ∷ ys) x (suc i) = let r = snoc_at ys x i in ((λ h. r.0 (omega arith)), (λ h. r.1 (omega arith)))

pub below_long : (f : ℕ → ℕ) (n : ℕ) → length (map f (below n)) ≡ n
unfolding below
below_long f zero = refl
below_long f (suc n) = ap length (map_snoc f (below n) n) ∙ length_snoc (map f (below n)) (f n) ∙ ap suc (below_long f n)

pub below_at : (f : ℕ → ℕ) (n i : ℕ) → i < n → get_or (map f (below n)) i 0 ≡ f i
unfolding below
below_at f zero i h = absurd (omega arith)
below_at f (suc n) i h = ap (λ (l : List ℕ). get_or l i 0) (map_snoc f (below n) n) ∙ go (eqb i n) refl (below_at f n i)
  where
    go : (b : Bool) → eqb i n ≡ b → (i < n → get_or (map f (below n)) i 0 ≡ f i) → get_or (map f (below n) ++ (f n ∷ [])) i 0 ≡ f i
    go true e r = let z = eqb-true i n e in (snoc_at (map f (below n)) (f n) i).1 (z ∙ sym (below_long f n)) ∙ ap f (sym z)
    go false e r =
        let z = eqb-false i n e in
        let k : i < n = omega arith in
        (snoc_at (map f (below n)) (f n) i).0 (omega (arith, below_long f n)) ∙ r k
