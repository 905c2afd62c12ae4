-- Metadata records by their name: the first, the next one behind it, what is said of all, and that their IDs differ. Assumes nothing.
use Rattle.std.specs.Prelude.{None, Ok, Option, Some}
use Prim.Native.Nat.{ℕ, zero, suc, ◌+◌, ◌≤◌, ◌<◌}
use mathlib.Core.Path.{◌≡◌, refl, sym, ◌∙◌}
use mathlib.Core.List.{List, [], ◌∷◌, map, Memᴰ}
use mathlib.Core.Bool.{Bool, true, false, not, ◌||◌}
use native.Mathlib.Omega.{arith}
use lib.ListN.{length, get_or}
use lib.Dec.{eqb}
use borrow.Author.Tests.{ne_eqb}
use Rattle.wire.specs.Tests.{◌≡?◌, is}
use Rattle.wire.specs.Bytes.{same_bytes}
use Rattle.wire.specs.Lists.{select}
use Rattle.wire.proofs.TestLaws.{means, yes, no, either_way, not_both}
use Rattle.wire.proofs.ByteLaws.{same_is, is_same}
use Rattle.wire.proofs.ListLaws.{every_member, select_member, Behind, behind_select}
use Rattle.record.specs.Types.{metadata_type}
use Rattle.record.specs.Record.{type_at, length_at, record_ok}
use Rattle.record.specs.Chain.{starts, header_end, records, records_of, find, first_record}
use Rattle.record.proofs.ChainLaws.{ok_means, by_chain, starts_record, starts_none, starts_behind}
use Rattle.record.proofs.FindLaws.{found_not, at_is, type_of}
use Rattle.bodies.specs.MetadataRecord.{metadata_name, record_id}
use Rattle.metadata_keys.specs.Pairs.{same_key, keys_distinct}
use Rattle.check_lists.specs.Metadata.{metadata_directory_right}
use Rattle.page_check.specs.Stages.{check}
use Rattle.page_check.proofs.AcceptedLaws.{accepted_sound}
use Rattle.store.specs.declared.named.NamedIds.TheVariants.{Absent, One, Several}
use Rattle.store.specs.Named.{is_named, records_named, ids_named, name_said, IdsDiffer}

module _ (s name : List ℕ) (x k : ℕ) (p : k ≡ type_at s x) where
  pub other_type : (k ≡ 1 → ⊥) → false ≡ is_named s name x
  unfolding is_named
  other_type f = no ((type_at s x ≡? metadata_type) ∷ is (same_bytes (metadata_name s x) name) ∷ []) (λ y. f (p ∙ y.0))

  pub of_type_named : (b : Bool) (m : List ℕ) → k ≡ 1 → m ≡ metadata_name s x → b ≡ same_bytes m name → b ≡ is_named s name x
  unfolding is_named
  of_type_named b m q e t =
      either_way ((type_at s x ≡? metadata_type) ∷ is (same_bytes (metadata_name s x) name) ∷ []) b (λ f. (sym p ∙ q, (rw e at (sym t ∙ f), tt)))
      (λ f y. not_both y.1.0 (sym (rw e at t) ∙ f))

-- a search, as a choice among the records

module _ (p : ℕ → Bool) where
  find_none : (l : List ℕ) → find p l ≡ None → select p l ≡ []
  unfolding find select
  find_none [] e = refl
  find_none (x ∷ l) e = go (p x) refl (λ h. find_none l (rw h at e))
    where
      go : (b : Bool) → p x ≡ b → (p x ≡ false → select p l ≡ []) → select p (x ∷ l) ≡ []
      go true h f = found_not refl (rw h at e)
      go false h f = rw h (f h)

  none_found : {C : Type 0} (x : ℕ) → find p [] ≡ Some x → C
  unfolding find
  none_found x e = found_not (sym e) refl

  found_here : (a x : ℕ) (l : List ℕ) → p a ≡ true → find p (a ∷ l) ≡ Some x → a ≡ x
  unfolding find
  found_here a x l h e = at_is (rw h at e)

  found_on : (a x : ℕ) (l : List ℕ) → p a ≡ false → find p (a ∷ l) ≡ Some x → find p l ≡ Some x
  unfolding find
  found_on a x l h e = rw h at e

  taken : (a : ℕ) (l : List ℕ) → p a ≡ true → select p (a ∷ l) ≡ a ∷ select p l
  unfolding select
  taken a l h = rw h

  passed : (a : ℕ) (l : List ℕ) → p a ≡ false → select p (a ∷ l) ≡ select p l
  unfolding select
  passed a l h = rw h

module _ (s : List ℕ) (p : ℕ → Bool) where
  -- the first, and those behind it
  pub record FirstAt (at x : ℕ) : Type 0 where
    pub all : select p (starts s at) ≡ x ∷ select p (starts s (x + length_at s x))
    pub ok : record_ok s x ≡ true

  first_at : (at x : ℕ) → find p (starts s at) ≡ Some x → FirstAt at x
  first_at at x = by_chain s (λ a. find p (starts s a) ≡ Some x → FirstAt a x) none more at
    where
      none : (a : ℕ) → record_ok s a ≡ false → find p (starts s a) ≡ Some x → FirstAt a x
      none a o e = none_found p x (rw (starts_none s a o) at e)

      more : (a : ℕ) → record_ok s a ≡ true → (find p (starts s (a + length_at s a)) ≡ Some x → FirstAt (a + length_at s a) x) → find p (starts s a) ≡ Some x → FirstAt a x
      more a o f e = go (p a) refl
        where
          q : find p (a ∷ starts s (a + length_at s a)) ≡ Some x
          q = rw (starts_record s a o) at e

          go : (b : Bool) → p a ≡ b → FirstAt a x
          go true h = let z : a ≡ x = found_here p a x _ h q in rw (← z) (record { all = rw (starts_record s a o) (taken p a _ h); ok = o })
          go false h = let y = f (found_on p a x _ h q) in record { all = rw (starts_record s a o) (passed p a _ h ∙ y.all); ok = y.ok }

-- what is said of the name, by the first two searches

module _ (s name : List ℕ) (h : ℕ) (f : Option ℕ) (e : h ≡ header_end s) (q : f ≡ first_record s h (is_named s name)) where
  abbrev is_named_lem : ℕ → Bool
  is_named_lem = is_named s name

  pub named_none : f ≡ None → Absent ≡ name_said s name
  unfolding name_said ids_named records_named records first_record
  named_none z = rw (find_none is_named_lem (starts s (header_end s)) (rw e at (sym q ∙ z)))

  module _ (x n : ℕ) (z : f ≡ Some x) (l : n ≡ length_at s x) where
    first : FirstAt s is_named_lem (header_end s) x
    unfolding first_record
    first = first_at s is_named_lem (header_end s) x (rw e at (sym q ∙ z))

    pub next_fits : x + n ≤ length s
    next_fits = omega (arith, (ok_means s x first.ok).inside)

    module _ (g : Option ℕ) (r : g ≡ first_record s (x + n) is_named_lem) where
      pub named_one : g ≡ None → (i : ℕ) → i ≡ record_id s x → One i ≡ name_said s name
      unfolding name_said ids_named records_named records first_record
      named_one w i d = rw (first.all, find_none is_named_lem (starts s (x + length_at s x)) (rw l at (sym r ∙ w)), d)

      pub named_several : (y : ℕ) → g ≡ Some y → Several ≡ name_said s name
      unfolding name_said ids_named records_named records first_record
      named_several y w = rw (first.all, (first_at s is_named_lem (x + length_at s x) y (rw l at (sym r ∙ w))).all)

-- what a function gives of a list that increases differs, where it differs of any two

module _ (f : ℕ → ℕ) where
  later : {C : Type 0} (a : ℕ) (l : List ℕ) (k : ℕ) → Behind a l → k < length (map f l) → ((y : ℕ) → Memᴰ y l → a ≤ y → get_or (map f l) k 0 ≡ f y → C) → C
  later a [] k b h g = absurd (omega arith)
  later a (x ∷ l) zero b h g = g x (Memᴰ.head refl) b.0 refl
  later a (x ∷ l) (suc k) b h g =
      later (x + 1) l k b.1 (omega arith) (λ y m n e. g y (Memᴰ.tail m) (omega (arith, b.0, n)) e)

  differ :
      (a : ℕ) (l : List ℕ) → Behind a l → ((x y : ℕ) → Memᴰ x l → Memᴰ y l → x < y → f x ≡ f y → ⊥) → (i k : ℕ) → i < k → k < length (map f l) →
      get_or (map f l) i 0 ≡ get_or (map f l) k 0 → ⊥
  differ a [] b g i k h n e = omega arith
  differ a (x ∷ l) b g i zero h n e = omega arith
  differ a (x ∷ l) b g zero (suc k) h n e =
      later (x + 1) l k b.1 (omega arith) (λ y m u v. g x y (Memᴰ.head refl) (Memᴰ.tail m) (omega (arith, u)) (e ∙ v))
  differ a (x ∷ l) b g (suc i) (suc k) h n e =
      differ (x + 1) l b.1 (λ y z m w. g y z (Memᴰ.tail m) (Memᴰ.tail w)) i k (omega arith) (omega arith) e

-- no two metadata records of an accepted file have one pair of name and ID

apart_key : (a b : Bool) → a ≡ false → b ≡ true → a || not b ≡ true → ⊥
apart_key true b p q h = not_both refl p
apart_key false true p q h = not_both h refl
apart_key false false p q h = not_both q refl

module _ (s name : List ℕ) (w : keys_distinct s ≡ true) where
  -- a record with the name is a metadata record, and has it
  has_name_lem : (x : ℕ) → Memᴰ x (records_named s name) → Memᴰ x (records_of s metadata_type) × (metadata_name s x ≡ name)
  unfolding records_named is_named
  has_name_lem x a =
      let p = select_member (is_named s name) (records s) a in
      let m = means ((type_at s x ≡? metadata_type) ∷ is (same_bytes (metadata_name s x) name) ∷ []) p.1 in
      (type_of s metadata_type p.0 m.0, same_is (metadata_name s x) name m.1.0)

  ascend : Behind (header_end s) (records_named s name)
  unfolding records_named records
  ascend = behind_select (is_named s name) (header_end s) (starts s (header_end s)) (starts_behind s (header_end s))

  two_differ : (x y : ℕ) → Memᴰ x (records_named s name) → Memᴰ y (records_named s name) → x < y → record_id s x ≡ record_id s y → ⊥
  unfolding keys_distinct same_key
  two_differ x y a b h q =
      let p = has_name_lem x a in
      let r = has_name_lem y b in
      let g = every_member _ (records_of s metadata_type) (every_member _ (records_of s metadata_type) w p.0) r.0 in
      let v = yes (is (same_bytes (metadata_name s x) (metadata_name s y)) ∷ (record_id s x ≡? record_id s y) ∷ []) (is_same _ _ (p.1 ∙ sym r.1), (q, tt)) in
      apart_key (eqb x y) _ (ne_eqb x y (λ d. omega (arith, d))) (sym v) g

keys_accepted : (s : List ℕ) → check s ≡ Ok tt → keys_distinct s ≡ true
unfolding metadata_directory_right
keys_accepted s a = (means _ (accepted_sound s a).metadata_directory_lem).1.1.1.1.1.0

pub ids_differ : IdsDiffer
unfolding ids_named
ids_differ s name a i k h n e =
    let w = keys_accepted s a in
    differ (record_id s) (header_end s) (records_named s name) (ascend s name w) (two_differ s name w) i k h n e
