-- Lists of items of one size, given one by one. Assumes nothing.
use Rattle.std.specs.Prelude.{Err, Ok, Result, ⊤}
use Prim.Native.Nat.{ℕ, zero, suc, ◌+◌, ◌-◌, ◌≤◌, ◌<◌}
use mathlib.Core.Path.{◌≡◌, refl, sym, ap, ◌∙◌}
use mathlib.Core.List.{List, [], ◌∷◌, ◌++◌, map, flat_map}
use mathlib.Core.Bool.{Bool, true, false}
use mathlib.Core.Logic.{by_cases}
use native.Mathlib.Decide.{dec_le}
use native.Mathlib.Omega.{arith}
use native.Mathlib.Numerals.{add-one}
use lib.ListN.{length, get_or, drop, length-append, drop_of_length-le}
use lib.Seq.{drop-cons}
use lib.Dec.{leb}
use borrow.Author.Tests.{le-leb, lt-leb, leb-true, leb-false}
use Rattle.wire.specs.Bytes.{put}
use Rattle.wire.specs.Lists.{select, below}
use Rattle.wire.proofs.PutLaws.{put_not, put_nil, put_put, length_put}
use Rattle.wire.proofs.ListLaws.{below_long, below_at}
use Rattle.answer.specs.declared.Refusal.{Refusal}
use Rattle.answer.specs.Refusals.{unless_refused}
use Rattle.answer.proofs.VerdictLaws.{refusal_handed, answer_behind}
use Rattle.page_check.specs.Stages.{check}
use Rattle.says.specs.declared.lists.Progress.{Progress}
use Rattle.says.specs.declared.lists.Listed.{Listed}
use Rattle.says.specs.declared.lists.Listed.TheVariants.{Items, Refused}
use Rattle.says.specs.Lists.{fitting, taken, items_of, item_numbers, passed_over, left_out, took_item, offered, offered_to, offered_if, offered_if_to, listed, listed_numbers}

-- what an item given to a list does

module _ (size room : ℕ) (p r : Progress) where
  pub offered_passed : 1 ≤ p.skip → r ≡ passed_over p → r ≡ offered size room p
  unfolding offered
  offered_passed h e = e ∙ rw (le-leb 1 p.skip h)

  pub offered_left : p.skip < 1 → room < p.at + size → r ≡ left_out p → r ≡ offered size room p
  unfolding offered
  offered_left h k e = e ∙ rw (lt-leb 1 p.skip h, lt-leb (p.at + size) room k)

  pub offered_took : p.skip < 1 → p.at + size ≤ room → r ≡ took_item size p → r ≡ offered size room p
  unfolding offered
  offered_took h k e = e ∙ rw (lt-leb 1 p.skip h, le-leb (p.at + size) room k)

module _ (d v : List ℕ) (p : Progress) where
  pub to_passed : 1 ≤ p.skip → d ≡ offered_to d v p
  unfolding offered_to
  to_passed h = rw (le-leb 1 p.skip h)

  pub to_put : (d' : List ℕ) → p.skip < 1 → d' ≡ put d p.at v → d' ≡ offered_to d v p
  unfolding offered_to
  to_put d' h e = e ∙ rw (lt-leb 1 p.skip h)

-- those that fit

pub fitting_here : (size room x : ℕ) (l : List ℕ) → size ≤ room → fitting size room (x ∷ l) ≡ x ∷ fitting size (room - size) l
unfolding fitting
fitting_here size room x l h = rw (le-leb size room h)

pub fitting_full : (size room : ℕ) (l : List ℕ) → room < size → fitting size room l ≡ []
unfolding fitting
fitting_full size room [] h = refl
fitting_full size room (x ∷ l) h = rw (lt-leb size room h)

fitting_none : (size room : ℕ) → fitting size room [] ≡ []
unfolding fitting
fitting_none size room = refl

module _ (f : ℕ → List ℕ) where
  items_cons : (x : ℕ) (l : List ℕ) → flat_map f (x ∷ l) ≡ f x ++ flat_map f l
  unfolding flat_map
  items_cons x l = refl

  items_none : flat_map f [] ≡ []
  unfolding flat_map
  items_none = refl

  -- their numbers take no more than the room
  pub fitting_long : (size : ℕ) → ((x : ℕ) → length (f x) ≡ size) → (room : ℕ) (l : List ℕ) → length (flat_map f (fitting size room l)) ≤ room
  fitting_long size long room [] = rw (fitting_none size room, items_none) (omega arith)
  fitting_long size long room (x ∷ l) = go (leb size room) refl (fitting_long size long (room - size) l)
    where
      go : (b : Bool) → leb size room ≡ b → length (flat_map f (fitting size (room - size) l)) ≤ room - size → length (flat_map f (fitting size room (x ∷ l))) ≤ room
      go true e r =
          let h : size ≤ room = leb-true _ _ e in
          rw (fitting_here size room x l h, items_cons x (fitting size (room - size) l), length-append (f x) (flat_map f (fitting size (room - size) l)))
          (omega (arith, long x, r))
      go false e r = rw (fitting_full size room (x ∷ l) (leb-false _ _ e), items_none) (omega arith)

drop_pass : (k x : ℕ) (l : List ℕ) → 1 ≤ k → drop k (x ∷ l) ≡ drop (k - 1) l
drop_pass zero x l h = absurd (omega arith)
drop_pass (suc k) x l h = let e : suc k - 1 ≡ k = omega arith in rw e

drop_none : (k : ℕ) (l : List ℕ) → k < 1 → drop k l ≡ l
drop_none zero l h = refl
drop_none (suc k) l h = absurd (omega arith)

drop_nil : (k : ℕ) → drop {A = ℕ} k [] ≡ []
drop_nil zero = refl
drop_nil (suc k) = refl

-- the list under way, `rest` still to be given: what it will write, take and see is what was asked for

module _ (f : ℕ → List ℕ) (size from : ℕ) (xs d₀ : List ℕ) where
  pub record Listing (p : Progress) (d rest : List ℕ) : Type 0 where
    pub fits : p.at ≤ length d
    pub fewer : p.taken ≤ p.seen
    pub numbers : put d p.at (flat_map f (fitting size (length d - p.at) (drop p.skip rest))) ≡ put d₀ 0 (item_numbers f size from xs (length d₀))
    pub count : p.taken + length (fitting size (length d - p.at) (drop p.skip rest)) ≡ length (taken size from xs (length d₀))
    pub more : p.seen + length (drop p.skip rest) ≡ length (drop from xs)

  pub list_begin : Listing (record { skip = from; at = 0; taken = 0; seen = 0 }) d₀ xs
  unfolding item_numbers taken
  list_begin =
      let e : length d₀ - 0 ≡ length d₀ = omega arith in
      record { fits = omega arith; fewer = omega arith; numbers = rw e; count = rw e (omega arith); more = omega arith }

  module _ (long : (x : ℕ) → length (f x) ≡ size) (p : Progress) (d rest : List ℕ) (x : ℕ) (i : Listing p d (x ∷ rest)) where
    on_passed : 1 ≤ p.skip → Listing (passed_over p) d rest
    unfolding passed_over
    on_passed h =
        let e = drop_pass p.skip x rest h in
        record { fits = i.fits; fewer = i.fewer; numbers = rw e at i.numbers; count = rw e at i.count; more = rw e at i.more }

    on_left : p.skip < 1 → length d < p.at + size → Listing (left_out p) d rest
    unfolding left_out
    on_left h k =
        let room : length d - p.at < size = omega (arith, i.fits) in
        let a = fitting_full size (length d - p.at) (drop p.skip (x ∷ rest)) room in
        let b = fitting_full size (length d - p.at) (drop p.skip rest) room in
        record {
          fits = i.fits;
          fewer = omega (arith, i.fewer);
          numbers = rw b (rw a at i.numbers);
          count = rw b (rw a at i.count);
          more = rw (drop_none p.skip rest h) (let z = rw (drop_none p.skip (x ∷ rest) h) at i.more in omega (arith, z));
        }

    on_took : p.skip < 1 → p.at + size ≤ length d → Listing (took_item size p) (put d p.at (f x)) rest
    unfolding took_item
    on_took h k =
        let w : List ℕ = fitting size (length d - p.at - size) rest in
        let a : fitting size (length d - p.at) (drop p.skip (x ∷ rest)) ≡ x ∷ w = rw (drop_none p.skip (x ∷ rest) h) (fitting_here size (length d - p.at) x rest (omega arith)) in
        let l = length_put d p.at (f x) in
        let o : length d - (p.at + size) ≡ length d - p.at - size = omega arith in
        let b : fitting size (length (put d p.at (f x)) - (p.at + size)) (drop p.skip rest) ≡ w = rw (l, o, drop_none p.skip rest h) in
        let n : length (flat_map f w) ≤ length d - p.at - size = fitting_long f size long (length d - p.at - size) rest in
        let c : p.at + size ≡ p.at + length (f x) = omega (arith, long x) in
        let m : put (put d p.at (f x)) (p.at + size) (flat_map f w) ≡ put d p.at (f x ++ flat_map f w) = rw c (put_put d p.at (f x) (flat_map f w) (omega (arith, long x, n, k))) in
        record {
          fits = rw l k;
          fewer = omega (arith, i.fewer);
          numbers = rw b (m ∙ ap (put d p.at) (sym (items_cons f x w)) ∙ (rw a at i.numbers));
          count = rw b (let z = rw a at i.count in omega (arith, z));
          more = rw (drop_none p.skip rest h) (let z = rw (drop_none p.skip (x ∷ rest) h) at i.more in omega (arith, z));
        }

    -- one item more
    pub item_step : (q : Progress) (d' v : List ℕ) → v ≡ f x → q ≡ offered (length v) (length d) p → d' ≡ offered_to d v p → Listing q d' rest
    item_step q d' v e g h =
        let n : length v ≡ size = ap length e ∙ long x in
        let g' : q ≡ offered size (length d) p = g ∙ ap (λ (k : ℕ). offered k (length d) p) n in
        let h' : d' ≡ offered_to d (f x) p = h ∙ ap (λ (l : List ℕ). offered_to d l p) e in
        by_cases (dec_le 1 p.skip)
        (λ k. rw (g' ∙ sym (offered_passed size (length d) p (passed_over p) k refl), h' ∙ sym (to_passed d (f x) p k)) (on_passed k))
        (λ k.
        let z : p.skip < 1 = omega arith in
        by_cases (dec_le (p.at + size) (length d))
        (λ m. rw (g' ∙ sym (offered_took size (length d) p (took_item size p) z m refl), h' ∙ sym (to_put d (f x) p (put d p.at (f x)) z refl)) (on_took z m))
        (λ m.
        let w : length d < p.at + size = omega arith in
        rw (g' ∙ sym (offered_left size (length d) p (left_out p) z w refl), h' ∙ sym (to_put d (f x) p (put d p.at (f x)) z refl) ∙ put_not d p.at (f x) (omega (arith, long x, w))) (on_left z w)))

  -- nothing more to give

  module _ (p : Progress) (d : List ℕ) (i : Listing p d []) where
    pub list_numbers_lem : d ≡ put d₀ 0 (item_numbers f size from xs (length d₀))
    list_numbers_lem =
        let z = rw (drop_nil p.skip, fitting_none size (length d - p.at), items_none f) at i.numbers in
        sym (put_nil d p.at) ∙ z

    pub list_items : Items p.taken p.seen ≡ items_of size from xs (length d₀)
    unfolding items_of
    list_items =
        let a = rw (drop_nil p.skip, fitting_none size (length d - p.at)) at i.count in
        let b = rw (drop_nil p.skip) at i.more in
        let y : p.taken ≡ length (taken size from xs (length d₀)) = omega (arith, a) in
        let z : p.seen ≡ length (drop from xs) = omega (arith, b) in
        rw (y, z)

-- an item that a rule selects from those still to come
module _ (f : ℕ → List ℕ) (size from : ℕ) (xs d₀ : List ℕ) (long : (x : ℕ) → length (f x) ≡ size) (k : ℕ → Bool) where
  pub list_select :
      (p q : Progress) (d d' l : List ℕ) (x : ℕ) → Listing f size from xs d₀ p d (select k (x ∷ l)) → q ≡ offered_if (k x) size (length d) p →
      d' ≡ offered_if_to (k x) d (f x) p → Listing f size from xs d₀ q d' (select k l)
  unfolding select offered_if offered_if_to
  list_select p q d d' l x i g h = go (k x) refl
    where
      go : (b : Bool) → k x ≡ b → Listing f size from xs d₀ q d' (select k l)
      go true e =
          let n = long x in
          let j : Listing f size from xs d₀ p d (x ∷ select k l) = rw e at i in
          let u : q ≡ offered size (length d) p = rw e at g in
          let v : d' ≡ offered_to d (f x) p = rw e at h in
          item_step f size from xs d₀ long p d (select k l) x j q d' (f x) refl (rw n u) v
      go false e =
          let j : Listing f size from xs d₀ p d (select k l) = rw e at i in
          let u : q ≡ p = rw e at g in
          let v : d' ≡ d = rw e at h in
          rw (u, v) j

-- what the next call needs of a list under way

module _ {f : ℕ → List ℕ} {size from : ℕ} {xs d₀ : List ℕ} {p : Progress} {d rest : List ℕ} (i : Listing f size from xs d₀ p d rest) where
  pub list_fits_lem : p.at ≤ length d
  list_fits_lem = i.fits

  pub list_fewer : p.taken ≤ p.seen
  list_fewer = i.fewer

seen_once : (size room : ℕ) (p : Progress) → (offered size room p).seen ≤ p.seen + 1
unfolding offered passed_over left_out took_item
seen_once size room p = go (leb 1 p.skip) (leb (p.at + size) room) refl refl
  where
    go : (a b : Bool) → leb 1 p.skip ≡ a → leb (p.at + size) room ≡ b → (offered size room p).seen ≤ p.seen + 1
    go true b e h = rw e (omega arith)
    go false true e h = rw (e, h) (omega arith)
    go false false e h = rw (e, h) (omega arith)

pub seen_more : (size room k : ℕ) (p q : Progress) → q ≡ offered size room p → p.seen ≤ k → q.seen ≤ k + 1
seen_more size room k p q e h = rw e (omega (arith, seen_once size room p))

pub seen_if : (b : Bool) (size room k : ℕ) (p q : Progress) → q ≡ offered_if b size room p → p.seen ≤ k → q.seen ≤ k + 1
unfolding offered_if
seen_if true size room k p q e h = seen_more size room k p q e h
seen_if false size room k p q e h = rw e (omega arith)

to_long : (d v : List ℕ) (p : Progress) → length (offered_to d v p) ≡ length d
unfolding offered_to
to_long d v p = go (leb 1 p.skip) refl
  where
    go : (a : Bool) → leb 1 p.skip ≡ a → length (offered_to d v p) ≡ length d
    go true e = rw e
    go false e = rw e (length_put d p.at v)

pub long_kept : (n : ℕ) (d d' v : List ℕ) (p : Progress) → d' ≡ offered_to d v p → length d ≡ n → length d' ≡ n
long_kept n d d' v p e h = rw e (to_long d v p) ∙ h

pub long_if : (b : Bool) (n : ℕ) (d d' v : List ℕ) (p : Progress) → d' ≡ offered_if_to b d v p → length d ≡ n → length d' ≡ n
unfolding offered_if_to
long_if true n d d' v p e h = long_kept n d d' v p e h
long_if false n d d' v p e h = rw e h

-- where the list has no such item, and where it has

module _ (b : Bool) (size room : ℕ) (p : Progress) where
  pub offer_none : b ≡ false → p ≡ offered_if b size room p
  unfolding offered_if
  offer_none e = rw e

  pub offer_some : (q : Progress) → b ≡ true → q ≡ offered size room p → q ≡ offered_if b size room p
  unfolding offered_if
  offer_some q e h = rw e h

module _ (b : Bool) (d v : List ℕ) (p : Progress) where
  pub to_none : b ≡ false → d ≡ offered_if_to b d v p
  unfolding offered_if_to
  to_none e = rw e

  pub to_some : (d' : List ℕ) → b ≡ true → d' ≡ offered_to d v p → d' ≡ offered_if_to b d v p
  unfolding offered_if_to
  to_some d' e h = rw e h

-- the numbers below n from k on

map_same : (l : List ℕ) → map (λ (i : ℕ). i) l ≡ l
map_same [] = refl
map_same (x ∷ l) = ap (λ (m : List ℕ). x ∷ m) (map_same l)

below_size : (n : ℕ) → length (below n) ≡ n
below_size n = ap length (sym (map_same (below n))) ∙ below_long (λ i. i) n

pub below_drop : (n k : ℕ) → k < n → drop k (below n) ≡ k ∷ drop (k + 1) (below n)
below_drop n k h =
    let g : get_or (below n) k 0 ≡ k = ap (λ (l : List ℕ). get_or l k 0) (sym (map_same (below n))) ∙ below_at (λ i. i) n k h in
    rw (add-one k) (drop-cons (below n) k 0 (omega (arith, below_size n)) ∙ ap (λ (x : ℕ). x ∷ drop (suc k) (below n)) g)

pub below_end : (n k : ℕ) → n ≤ k → drop k (below n) ≡ []
below_end n k h = drop_of_length-le (below n) {i = k} (omega (arith, below_size n))

-- behind the check

module _ (s : List ℕ) (size from room : ℕ) (xs : List ℕ) (v : Result ⊤ Refusal) (e : v ≡ check s) where
  pub list_refused : (r : Refusal) → v ≡ Err r → Refused r ≡ listed s size from xs room
  unfolding listed
  list_refused r h = refusal_handed Refused v (check s) e _ r h

  pub list_accepted : (r : Listed) → v ≡ Ok tt → r ≡ items_of size from xs room → r ≡ listed s size from xs room
  unfolding listed
  list_accepted r h q = answer_behind Refused v (check s) e _ r h (λ a. q)

  pub none_listed : (f : ℕ → List ℕ) (r : Refusal) (d : List ℕ) → v ≡ Err r → d ≡ put d 0 (listed_numbers s f size from xs room)
  unfolding listed_numbers unless_refused
  none_listed f r d h = rw (← e, h) (sym (put_nil d 0))

  pub numbers_listed : (f : ℕ → List ℕ) (d d' : List ℕ) → v ≡ Ok tt → d' ≡ put d 0 (item_numbers f size from xs room) → d' ≡ put d 0 (listed_numbers s f size from xs room)
  unfolding listed_numbers unless_refused
  numbers_listed f d d' h q = q ∙ rw (← e, h)
