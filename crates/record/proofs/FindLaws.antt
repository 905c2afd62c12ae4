-- Rules over the records of a file, or those of a type, by a search for one that keeps or breaks them. Assumes nothing.
use Rattle.std.specs.Prelude.{None, Option, Some}
use Prim.Native.Nat.{ℕ, zero, suc, ◌+◌, ◌≤◌, ◌<◌}
use mathlib.Core.Path.{◌≡◌, refl, sym, ap, ◌∙◌}
use mathlib.Core.List.Memᴰ
use mathlib.Core.List.{List, [], ◌∷◌, ◌++◌, Memᴰ}
use mathlib.Core.Logic.{⊎_elim, by_cases}
use mathlib.Core.Bool.{Bool, true, false, not}
use native.Mathlib.Omega.{arith}
use native.Mathlib.Numerals.{add-one}
use native.Mathlib.Decide.{dec_le}
use lib.Dec.{eqb}
use borrow.Author.Tests.{eqb-true, eq-eqb, ne_eqb}
use Rattle.wire.specs.Pick.{pick}
use Rattle.wire.specs.Tests.{both, passes}
use Rattle.wire.specs.Lists.{select, every, some, below}
use Rattle.wire.proofs.ListLaws.{Behind, behind_more, behind_select, select_member, member_select, select_none}
use Rattle.record.specs.Record.{type_at}
use Rattle.record.specs.Chain.{starts, find, find_not, header_end, records, records_of}
use Rattle.record.proofs.ChainLaws.{starts_behind}

-- what a search found

abbrev pub is_found : Option ℕ → Bool
is_found None = false
is_found (Some x) = true

-- some record that q selects has p; none that q selects lacks p

module _ (p q w : ℕ → Bool) where
  pub some_found : ((x : ℕ) → w x ≡ both (q x) (p x)) → (l : List ℕ) → some p (select q l) ≡ is_found (find w l)
  unfolding some select find
  some_found e [] = refl
  some_found e (x ∷ xs) = go (q x) refl (p x) refl (some_found e xs)
    where
      go :
          (a : Bool) → q x ≡ a → (b : Bool) → p x ≡ b → some p (select q xs) ≡ is_found (find w xs) →
          some p (pick (q x) (x ∷ select q xs) (select q xs)) ≡ is_found (pick (w x) (Some x) (find w xs))
      go true f true g r = rw (e x, f, g)
      go true f false g r = rw (e x, f, g) r
      go false f b g r = rw (e x, f) r

  pub every_found : ((x : ℕ) → w x ≡ both (q x) (not (p x))) → (l : List ℕ) → every p (select q l) ≡ not (is_found (find w l))
  unfolding every select find passes
  every_found e [] = refl
  every_found e (x ∷ xs) = go (q x) refl (p x) refl (every_found e xs)
    where
      plain : (b : Bool) → both b true ≡ b
      plain true = refl
      plain false = refl

      go :
          (a : Bool) → q x ≡ a → (b : Bool) → p x ≡ b → every p (select q xs) ≡ not (is_found (find w xs)) →
          every p (pick (q x) (x ∷ select q xs) (select q xs)) ≡ not (is_found (pick (w x) (Some x) (find w xs)))
      go true f true g r = rw (e x, f, g, plain) r
      go true f false g r = rw (e x, f, g)
      go false f b g r = rw (e x, f) r

-- none that breaks a rule is found just where each keeps it

pub found_not : {C : Type 0} {x : ℕ} {f : Option ℕ} → Some x ≡ f → f ≡ None → C
found_not p q = let z : ◌≡◌ {A = ℕ} 0 1 = cc in absurd (omega arith)

pub at_is : {x y : ℕ} → Some x ≡ Some y → x ≡ y
at_is e = cc

pub none_breaks : (p : ℕ → Bool) (l : List ℕ) → find_not p l ≡ None → {x : ℕ} → Memᴰ x l → p x ≡ true
unfolding find find_not
none_breaks p [] e m = absurd (Memᴰ.not-nil m)
none_breaks p (y ∷ ys) e {x} m = go (p y) refl (λ f k. none_breaks p ys f k)
  where
    go : (b : Bool) → p y ≡ b → (find_not p ys ≡ None → Memᴰ x ys → p x ≡ true) → p x ≡ true
    go true i r = ⊎_elim (λ h. ap p h ∙ i) (r (rw i at e)) (Memᴰ.cases_cons m)
    go false i r = found_not {x = y} refl (rw i at e)

pub all_keep : (p : ℕ → Bool) (l : List ℕ) → ((x : ℕ) → Memᴰ x l → p x ≡ true) → find_not p l ≡ None
unfolding find find_not
all_keep p [] f = refl
all_keep p (y ∷ ys) f = rw (f y (Memᴰ.head refl)) (all_keep p ys (λ x m. f x (Memᴰ.tail m)))

-- the first number below n of which p holds

module _ (p : ℕ → Bool) where
  find_ahead : (xs ys : List ℕ) {x : ℕ} → find p xs ≡ Some x → find p (xs ++ ys) ≡ Some x
  unfolding find
  find_ahead [] ys e = found_not (sym e) refl
  find_ahead (y ∷ xs) ys {x} e = go (p y) refl (find_ahead xs ys)
    where
      go : (b : Bool) → p y ≡ b → (find p xs ≡ Some x → find p (xs ++ ys) ≡ Some x) → pick (p y) (Some y) (find p (xs ++ ys)) ≡ Some x
      go true f r = rw f (rw f at e)
      go false f r = rw f (r (rw f at e))

  find_behind : (xs ys : List ℕ) → find p xs ≡ None → find p (xs ++ ys) ≡ find p ys
  unfolding find
  find_behind [] ys e = refl
  find_behind (y ∷ xs) ys e = go (p y) refl (find_behind xs ys)
    where
      go : (b : Bool) → p y ≡ b → (find p xs ≡ None → find p (xs ++ ys) ≡ find p ys) → pick (p y) (Some y) (find p (xs ++ ys)) ≡ find p ys
      go true f r = found_not {x = y} refl (rw f at e)
      go false f r = rw f (r (rw f at e))

  pub first_start : find p (below 0) ≡ None
  unfolding find below
  first_start = refl

  first_more : (k : ℕ) → find p (below k) ≡ None → find p (below (suc k)) ≡ pick (p k) (Some k) None
  unfolding find below
  first_more k e = find_behind (below k) (k ∷ []) e

  pub first_on : (k : ℕ) → find p (below k) ≡ None → p k ≡ false → find p (below (k + 1)) ≡ None
  first_on k e f = rw add-one (first_more k e ∙ rw f)

  first_stays : (n k : ℕ) {x : ℕ} → k ≤ n → find p (below k) ≡ Some x → find p (below n) ≡ Some x
  unfolding below
  first_stays zero k h e = let z : k ≡ 0 = omega arith in rw z at e
  first_stays (suc n) k h e =
      by_cases (dec_le k n) (λ l. find_ahead (below n) (n ∷ []) (first_stays n k l e)) (λ l. let z : k ≡ suc n = omega arith in rw z at e)

  pub first_at : (n k : ℕ) → k < n → find p (below k) ≡ None → p k ≡ true → find p (below n) ≡ Some k
  first_at n k h e f = first_stays n (suc k) (omega arith) (first_more k e ∙ rw f)

  -- it is below n, and p holds of it
  pub first_holds : (n k : ℕ) → find p (below n) ≡ Some k → (k < n) × (p k ≡ true)
  unfolding find below
  first_holds zero k e = found_not (sym e) refl
  first_holds (suc n) k e = go (find p (below n)) refl (p n) refl (first_holds n)
    where
      go : (f : Option ℕ) → find p (below n) ≡ f → (b : Bool) → p n ≡ b → ((j : ℕ) → find p (below n) ≡ Some j → (j < n) × (p j ≡ true)) → (k < suc n) × (p k ≡ true)
      go (Some x) g b i r =
          let z : k ≡ x = at_is (sym e ∙ find_ahead (below n) (n ∷ []) g) in
          let h = r x g in
          (omega arith, ap p z ∙ h.1)
      go None g true i r =
          let z : k ≡ n = at_is (sym e ∙ find_behind (below n) (n ∷ []) g ∙ rw i) in
          (omega arith, ap p z ∙ i)
      go None g false i r = found_not (sym e) (find_behind (below n) (n ∷ []) g ∙ rw i)

  -- none is found where p holds of none
  pub first_none_below : (n : ℕ) → ((k : ℕ) → k < n → p k ≡ false) → find p (below n) ≡ None
  first_none_below zero f = first_start
  first_none_below (suc n) f = rw (← add-one n) (first_on n (first_none_below n (λ k h. f k (omega arith))) (f n (omega arith)))

-- the records of a type

pub of_type : (s : List ℕ) (kind : ℕ) {x : ℕ} → Memᴰ x (records_of s kind) → Memᴰ x (records s) × (type_at s x ≡ kind)
unfolding records_of
of_type s kind m = let h = select_member _ (records s) m in (h.0, eqb-true _ _ h.1)

pub type_of : (s : List ℕ) (kind : ℕ) {x : ℕ} → Memᴰ x (records s) → type_at s x ≡ kind → Memᴰ x (records_of s kind)
unfolding records_of
type_of s kind m e = member_select _ (records s) m (eq-eqb _ _ e)

pub no_type : (s : List ℕ) (kind : ℕ) → ((x : ℕ) → Memᴰ x (records s) → type_at s x ≡ kind → ⊥) → records_of s kind ≡ []
unfolding records_of
no_type s kind f = select_none _ (records s) (λ x m. ne_eqb _ _ (f x m))

-- the records of a type increase

pub records_behind : (s : List ℕ) (kind : ℕ) → Behind 0 (records_of s kind)
unfolding records_of records
records_behind s kind =
    behind_select (λ x. eqb (type_at s x) kind) 0 (starts s (header_end s))
    (behind_more 0 (header_end s) (starts s (header_end s)) (omega arith) (starts_behind s (header_end s)))
