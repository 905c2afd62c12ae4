-- A list names each record once, and nothing else, just where it is a rearrangement of the records. Assumes nothing.
use Prim.Native.Nat.{ℕ, zero, suc, ◌+◌, ◌≤◌}
use mathlib.Core.Path.{◌≡◌, refl, sym, ap, ◌∙◌}
use mathlib.Core.List.Memᴰ
use mathlib.Core.List.{List, [], ◌∷◌, ◌++◌, map, map-append, append-nil, Memᴰ}
use mathlib.Core.Logic.{◌⊎◌, inl, inr, ⊎_elim}
use mathlib.Core.Bool.{Bool, true, false}
use native.Mathlib.Omega.{arith}
use borrow.Author.Tests.{eqb-true, eq-eqb}
use Rattle.wire.proofs.TestLaws.{means, yes, no_true, not_both, below_each, below_all}
use Rattle.wire.proofs.ByteLaws.{same_is, is_same}
use Rattle.record.proofs.FindLaws.{records_behind}
use Rattle.record.specs.Chain.{records_of}
use Rattle.wire.specs.Lists.{below, one_if, count_below}
use Rattle.wire.proofs.ListLaws.{Behind, every_member, member_every, some_member, member_some}
use Rattle.wire.proofs.RunLaws.{member_below, below_member}
use Rattle.check_lists.specs.declared.ListKind.TheVariants.{FreeSpace, Metadata}
use Rattle.check_lists.specs.Listed.{listed_once, nothing_else}
use Rattle.check_lists.specs.FileSpace.{free_entry_of, free_entry_is, free_listed, free_only}
use Rattle.bodies.specs.ListDirectories.{free_count, metadata_count}
use Rattle.metadata_keys.specs.Pairs.{same_key}
use Rattle.check_lists.specs.Metadata.{metadata_entry_of, metadata_entry_is, metadata_listed, metadata_only}
use Rattle.check_lists.specs.inner.Search.{list_entry_is}
use Rattle.check_lists.specs.Rearranged.{Rearranged, free_entry, free_entries, free_record, free_records, FreeRearranged, Described, metadata_entry, metadata_entries, metadata_record, metadata_records, MetadataRearranged}
use Rattle.check_lists.proofs.ListLaws.{entry_alone}

-- members of a list

member_more : (j k : ℕ) (a b : List ℕ) → Memᴰ j (a ++ b) → Memᴰ j (a ++ (k ∷ b))
member_more j k a b m = ⊎_elim (λ h. Memᴰ.append_left _ h) (λ h. Memᴰ.append_right a (Memᴰ.tail h)) (Memᴰ.append_cases a m)

member_less : (j k : ℕ) (a b : List ℕ) → Memᴰ j (a ++ (k ∷ b)) → (j ≡ k) ⊎ Memᴰ j (a ++ b)
member_less j k a b m =
    ⊎_elim (λ h. inr (Memᴰ.append_left b h)) (λ h. ⊎_elim (λ e. inl e) (λ i. inr (Memᴰ.append_right a i)) (Memᴰ.cases_cons h))
    (Memᴰ.append_cases a m)

member_behind : (a : ℕ) (l : List ℕ) → Behind a l → {x : ℕ} → Memᴰ x l → a ≤ x
member_behind a [] i m = absurd (Memᴰ.not-nil m)
member_behind a (y ∷ ys) i m =
    ⊎_elim (λ e. omega (arith, i.0)) (λ n. let h = member_behind (y + 1) ys i.1 n in omega (arith, i.0)) (Memᴰ.cases_cons m)

-- how many of a list p holds of

unfoldable count_in : (ℕ → Bool) → List ℕ → ℕ
count_in p [] = 0
count_in p (k ∷ ks) = one_if (p k) + count_in p ks

module _ (p : ℕ → Bool) where
  count_insert : (a : List ℕ) (k : ℕ) (b : List ℕ) → count_in p (a ++ (k ∷ b)) ≡ one_if (p k) + count_in p (a ++ b)
  unfolding count_in
  count_insert [] k b = refl
  count_insert (j ∷ a) k b = let r = count_insert a k b in omega arith

  count_below_lem : (n : ℕ) → count_in p (below n) ≡ count_below n p
  unfolding count_in below count_below
  count_below_lem zero = refl
  count_below_lem (suc n) = count_insert (below n) n [] ∙ rw (append-nil, count_below_lem n) (omega arith)

  count_member : (l : List ℕ) (k : ℕ) → Memᴰ k l → p k ≡ true → 1 ≤ count_in p l
  unfolding count_in one_if
  count_member [] k m e = absurd (Memᴰ.not-nil m)
  count_member (j ∷ l) k m e =
      ⊎_elim (λ h. rw (← h, e) (omega arith)) (λ n. let r = count_member l k n e in omega arith) (Memᴰ.cases_cons m)

  -- none is there, or one is
  abbrev HasOne : List ℕ → Type 0
  HasOne l = (a : List ℕ) × (k : ℕ) × (b : List ℕ) × (l ≡ a ++ (k ∷ b)) × (p k ≡ true)

  count_split : (l : List ℕ) → (count_in p l ≡ 0) ⊎ HasOne l
  unfolding count_in one_if
  count_split [] = inl refl
  count_split (j ∷ l) = go (p j) refl (count_split l)
    where
      go : (c : Bool) → p j ≡ c → (count_in p l ≡ 0) ⊎ HasOne l → (one_if (p j) + count_in p l ≡ 0) ⊎ HasOne (j ∷ l)
      go true e r = inr ([], j, l, refl, e)
      go false e (inl z) = inl (rw e (omega arith))
      go false e (inr f) = inr (j ∷ f.0, f.1, f.2, cc, f.4)

-- where v stands among the values of a list, there is a member with that value
map_split :
    {A : Type 0} (f : ℕ → A) (l : List ℕ) (front : List A) (v : A) (back : List A) → map f l ≡ front ++ (v ∷ back) →
    (a : List ℕ) × (k : ℕ) × (b : List ℕ) × (l ≡ a ++ (k ∷ b)) × (f k ≡ v) × (map f (a ++ b) ≡ front ++ back)
map_split f [] [] v back e = let z : ◌≡◌ {A = ℕ} 0 1 = cc in absurd (omega arith)
map_split f [] (w ∷ front) v back e = let z : ◌≡◌ {A = ℕ} 0 1 = cc in absurd (omega arith)
map_split f (k ∷ l) [] v back e = ([], k, l, refl, cc, cc)
map_split f (k ∷ l) (w ∷ front) v back e =
    let r = map_split f l front v back (cc) in
    (k ∷ r.0, r.1, r.2, cc, r.4, cc)

-- records of an increasing list, and entries: entry k is that of record x just where their values are equal, and of no other record

module _ {A : Type 0} (ofRecord ofEntry : ℕ → A) (entryIs : ℕ → ℕ → Bool)
    (says : (x k : ℕ) → entryIs x k ≡ true → ofEntry k ≡ ofRecord x)
    (said : (x k : ℕ) → ofEntry k ≡ ofRecord x → entryIs x k ≡ true)
    (alone : (x y k : ℕ) → entryIs x k ≡ true → entryIs y k ≡ true → x ≡ y) where
  abbrev Once : List ℕ → List ℕ → Type 0
  Once xs ks = (x : ℕ) → Memᴰ x xs → count_in (entryIs x) ks ≡ 1

  abbrev Only : List ℕ → List ℕ → Type 0
  Only xs ks = (k : ℕ) → Memᴰ k ks → (x : ℕ) × Memᴰ x xs × (entryIs x k ≡ true)

  -- an entry of a record is none of a later one
  not_later : (x : ℕ) (xs : List ℕ) → Behind (x + 1) xs → (k : ℕ) → entryIs x k ≡ true → (y : ℕ) → Memᴰ y xs → entryIs y k ≡ false
  not_later x xs i k e y m = sym (no_true _ (λ f. let j = alone x y k e f in let h = member_behind (x + 1) xs i m in omega arith))

  -- with the first record and its entry, and without them
  module _ (x : ℕ) (xs a : List ℕ) (k : ℕ) (b : List ℕ) (i : Behind (x + 1) xs) (e : entryIs x k ≡ true) where
    count_first : count_in (entryIs x) (a ++ (k ∷ b)) ≡ 1 + count_in (entryIs x) (a ++ b)
    unfolding one_if
    count_first = rw (count_insert (entryIs x) a k b, e)

    count_later : (y : ℕ) → Memᴰ y xs → count_in (entryIs y) (a ++ (k ∷ b)) ≡ count_in (entryIs y) (a ++ b)
    unfolding one_if
    count_later y m = rw (count_insert (entryIs y) a k b, not_later x xs i k e y m) (omega arith)

    once_less : Once (x ∷ xs) (a ++ (k ∷ b)) → Once xs (a ++ b)
    once_less once y m = sym (count_later y m) ∙ once y (Memᴰ.tail m)

    only_less : Once (x ∷ xs) (a ++ (k ∷ b)) → Only (x ∷ xs) (a ++ (k ∷ b)) → Only xs (a ++ b)
    only_less once only j m =
        let r = only j (member_more j k a b m) in
        ⊎_elim
        (λ h.
        let f : entryIs x j ≡ true = rw (← h) r.2 in
        let c = count_member (entryIs x) (a ++ b) j m f in
        absurd (omega (arith, once x (Memᴰ.head refl), count_first)))
        (λ n. (r.0, n, r.2)) (Memᴰ.cases_cons r.1)

    only_more : Only xs (a ++ b) → Only (x ∷ xs) (a ++ (k ∷ b))
    only_more only j m =
        ⊎_elim (λ h. (x, Memᴰ.head refl, rw h e)) (λ n. let r = only j n in (r.0, Memᴰ.tail r.1, r.2))
        (member_less j k a b m)

    once_more : Once xs (a ++ b) → Only xs (a ++ b) → Once (x ∷ xs) (a ++ (k ∷ b))
    once_more once only y m =
        ⊎_elim
        (λ h.
        rw h
        (count_first
        ∙ ⊎_elim (λ z. omega arith)
        (λ f.
        let r = only f.1 (rw f.3 (Memᴰ.append_right f.0 (Memᴰ.head refl))) in
        not_both r.2 (not_later x xs i f.1 f.4 r.0 r.1))
        (count_split (entryIs x) (a ++ b))))
        (λ n. count_later y n ∙ once y n) (Memᴰ.cases_cons m)

  arranged : (at : ℕ) (xs ks : List ℕ) → Behind at xs → Once xs ks → Only xs ks → Rearranged (map ofRecord xs) (map ofEntry ks)
  unfolding Rearranged
  arranged at [] [] i once only = refl
  arranged at [] (k ∷ ks) i once only = absurd (Memᴰ.not-nil (only k (Memᴰ.head refl)).1)
  arranged at (x ∷ xs) ks i once only =
      ⊎_elim (λ z. absurd (omega (arith, once x (Memᴰ.head refl))))
      (λ f.
      let once_here : Once (x ∷ xs) (f.0 ++ (f.1 ∷ f.2)) = rw f.3 at once in
      let only_here : Only (x ∷ xs) (f.0 ++ (f.1 ∷ f.2)) = rw f.3 at only in
      let rest = arranged (x + 1) xs (f.0 ++ f.2) i.1 (once_less x xs f.0 f.1 f.2 i.1 f.4 once_here)
      (only_less x xs f.0 f.1 f.2 i.1 f.4 once_here only_here) in
      (map ofEntry f.0, map ofEntry f.2, rw (f.3, map-append, ← says x f.1 f.4), rw map-append at rest))
      (count_split (entryIs x) ks)

  listed : (at : ℕ) (xs ks : List ℕ) → Behind at xs → Rearranged (map ofRecord xs) (map ofEntry ks) → Once xs ks × Only xs ks
  unfolding Rearranged
  listed at [] [] i r = ((λ x m. absurd (Memᴰ.not-nil m)), (λ k m. absurd (Memᴰ.not-nil m)))
  listed at [] (k ∷ ks) i r = let z : ◌≡◌ {A = ℕ} 0 1 = cc in absurd (omega arith)
  listed at (x ∷ xs) ks i r =
      let f = map_split ofEntry ks r.0 (ofRecord x) r.1 r.2 in
      let e = said x f.1 f.4 in
      let rest = listed (x + 1) xs (f.0 ++ f.2) i.1 (rw f.5 r.3) in
      rw f.3 (once_more x xs f.0 f.1 f.2 i.1 e rest.0 rest.1, only_more x xs f.0 f.1 f.2 i.1 e rest.1)

  -- by the rules

  module _ (s : List ℕ) (kind n : ℕ) where
    rearranged : listed_once s kind n entryIs ≡ true → nothing_else s kind n entryIs ≡ true → Rearranged (map ofRecord (records_of s kind)) (map ofEntry (below n))
    unfolding listed_once nothing_else
    rearranged once only =
        arranged 0 (records_of s kind) (below n) (records_behind s kind)
        (λ x m. count_below_lem (entryIs x) n ∙ eqb-true _ _ (every_member _ (records_of s kind) once m))
        (λ k m. some_member _ (λ x. entryIs x k) (records_of s kind) (below_each n _ only k (member_below n m)) (λ x i e. (x, i, e)))

    rules : Rearranged (map ofRecord (records_of s kind)) (map ofEntry (below n)) → (listed_once s kind n entryIs ≡ true) × (nothing_else s kind n entryIs ≡ true)
    unfolding listed_once nothing_else
    rules r =
        let l = listed 0 (records_of s kind) (below n) (records_behind s kind) r in (
          member_every _ (records_of s kind) (λ x m. eq-eqb _ _ (sym (count_below_lem (entryIs x) n) ∙ l.0 x m)),
          below_all n _ (λ k h. let o = l.1 k (below_member n k h) in member_some (λ x. entryIs x k) (records_of s kind) o.1 o.2),
        )

-- the free list

module _ (s : List ℕ) where
  free_says : (x k : ℕ) → free_entry_is s x k ≡ true → free_entry s k ≡ free_record s x
  unfolding free_entry_is free_entry_of free_entry free_record
  free_says x k e = let h = means _ e in rw (h.0, h.1.0)

  free_said : (x k : ℕ) → free_entry s k ≡ free_record s x → free_entry_is s x k ≡ true
  unfolding free_entry_is free_entry_of free_entry free_record
  free_said x k e = sym (yes _ (ap (λ (v : ℕ × ℕ). v.0) e, (ap (λ (v : ℕ × ℕ). v.1) e, tt)))

  free_alone : (x y k : ℕ) → free_entry_is s x k ≡ true → free_entry_is s y k ≡ true → x ≡ y
  unfolding list_entry_is
  free_alone = entry_alone s FreeSpace

pub free_rearranged : (s : List ℕ) → free_listed s ≡ true → free_only s ≡ true → FreeRearranged s
unfolding free_listed free_only FreeRearranged free_records free_entries
free_rearranged s =
    rearranged (free_record s) (free_entry s) (free_entry_is s) (free_says s) (free_said s) (free_alone s) s 0 (free_count s)

pub rearranged_free : (s : List ℕ) → FreeRearranged s → (free_listed s ≡ true) × (free_only s ≡ true)
unfolding free_listed free_only FreeRearranged free_records free_entries
rearranged_free s = rules (free_record s) (free_entry s) (free_entry_is s) (free_says s) (free_said s) (free_alone s) s 0 (free_count s)

-- the metadata list

module _ (s : List ℕ) where
  metadata_says_lem : (x k : ℕ) → metadata_entry_is s x k ≡ true → metadata_entry s k ≡ metadata_record s x
  unfolding metadata_entry_is metadata_entry_of same_key metadata_entry metadata_record
  metadata_says_lem x k e =
      let h = means _ e in
      let i = means _ h.1.0 in
      rw (h.0, same_is _ _ i.0, i.1.0, h.1.1.0)

  metadata_said : (x k : ℕ) → metadata_entry s k ≡ metadata_record s x → metadata_entry_is s x k ≡ true
  unfolding metadata_entry_is metadata_entry_of same_key metadata_entry metadata_record
  metadata_said x k e =
      let n = is_same _ _ (ap (λ (v : Described). v.name) e) in
      sym (yes _ (ap (λ (v : Described). v.content) e, (sym (yes _ (n, (ap (λ (v : Described). v.id) e, tt))), (ap (λ (v : Described). v.code) e, tt))))

  metadata_alone : (x y k : ℕ) → metadata_entry_is s x k ≡ true → metadata_entry_is s y k ≡ true → x ≡ y
  unfolding list_entry_is
  metadata_alone = entry_alone s Metadata

pub metadata_rearranged : (s : List ℕ) → metadata_listed s ≡ true → metadata_only s ≡ true → MetadataRearranged s
unfolding metadata_listed metadata_only MetadataRearranged metadata_records metadata_entries
metadata_rearranged s =
    rearranged (metadata_record s) (metadata_entry s) (metadata_entry_is s) (metadata_says_lem s) (metadata_said s) (metadata_alone s) s 1 (metadata_count s)

pub rearranged_metadata : (s : List ℕ) → MetadataRearranged s → (metadata_listed s ≡ true) × (metadata_only s ≡ true)
unfolding metadata_listed metadata_only MetadataRearranged metadata_records metadata_entries
rearranged_metadata s = rules (metadata_record s) (metadata_entry s) (metadata_entry_is s) (metadata_says_lem s) (metadata_said s) (metadata_alone s) s 1 (metadata_count s)
