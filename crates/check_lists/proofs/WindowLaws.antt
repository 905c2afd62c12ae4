-- A list is judged a window of the file at a time: each record of its type starts at a place of one window, and the place's count
-- says whether it is listed once. Assumes nothing.
use Rattle.std.specs.Prelude.{None, Option, Some}
use Prim.Native.Nat.{ℕ, zero, suc, ◌+◌, ◌*◌, ◌-◌, ◌/◌, ◌%◌, ◌≤◌, ◌<◌}
use mathlib.Core.Path.{◌≡◌, refl, sym, ap, ◌∙◌}
use mathlib.Core.List.{List, Memᴰ}
use mathlib.Core.Bool.{Bool, true, false, not}
use native.Mathlib.Omega.{arith}
use native.Mathlib.Numerals.{add-one}
use lib.ListN.{length, get_or, set, replicate, length-set, length-replicate, get_or-replicate}
use lib.Seq.{set_out, get_or-set_same, get_or-set_other}
use lib.Dec.{leb, eqb}
use borrow.Author.Tests.{eqb-true, eqb-false, eq-eqb, ne_eqb, leb-true, leb-false, le-leb, lt-leb, not-true}
use Rattle.wire.specs.Pick.{pick}
use Rattle.wire.specs.Tests.{both, passes}
use Rattle.wire.specs.Bytes.{u64_at}
use Rattle.wire.proofs.TestLaws.{means, yes, no, not_both, iff}
use Rattle.record.specs.Record.{type_at}
use Rattle.record.specs.Chain.{starts, first_record, header_end, records, records_of}
use Rattle.record.proofs.FindLaws.{of_type, type_of, is_found, every_found}
use Rattle.wire.proofs.CountLaws.{count_none, count_more, count_stay}
use Rattle.wire.specs.Lists.{count_below}
use Rattle.check_lists.specs.declared.ListKind.{ListKind}
use Rattle.check_lists.specs.declared.ListKind.TheVariants.{FreeSpace, Metadata}
use Rattle.check_lists.specs.FileSpace.{free_entry_of}
use Rattle.check_lists.specs.Metadata.{metadata_entry_of}
use Rattle.check_lists.specs.inner.Windows.{named_by, entry_in, slot_of, one_more, noted, tallied, count_not_one, not_once_in, window_counts, window_right, window_places, window_bytes}
use Rattle.check_lists.specs.inner.Search.{listed_kind, list_count, list_fits, list_entry_at, list_entry_size, list_entry_of, list_entry_is, not_listed_once}
use Rattle.check_lists.proofs.ListLaws.{list_room, list_step, entry_is}
use Rattle.check_lists.proofs.FirstLaws.{placed, record_placed, first_means, first_is, none_means, none_is}
use Rattle.check_lists.proofs.FindLaws.{unlisted_not}

-- the record that an entry names

module _ (s : List ℕ) (l : ListKind) (p n : ℕ) where
  pub named_free : l ≡ FreeSpace → n ≡ u64_at s p → n ≡ named_by s l p
  unfolding named_by
  named_free e q = rw e q

  pub named_metadata : (v : ℕ) → l ≡ Metadata → v ≡ u64_at s p → n ≡ v - 8 → n ≡ named_by s l p
  unfolding named_by
  named_metadata v e q h = rw e (h ∙ rw q)

pub named_is : (s : List ℕ) (l : ListKind) (x p : ℕ) → list_entry_of s l x p ≡ true → named_by s l p ≡ x
unfolding list_entry_of named_by free_entry_of metadata_entry_of
named_is s FreeSpace x p e = (means _ e).0
named_is s Metadata x p e = omega (arith, (means _ e).0)

-- the place of an entry in a window

slot_none : (s : List ℕ) (l : ListKind) (base p : ℕ) → entry_in s l base p (named_by s l p) ≡ false → window_places ≡ slot_of s l base p
unfolding slot_of
slot_none s l base p e = rw e

slot_some : (s : List ℕ) (l : ListKind) (base p : ℕ) → entry_in s l base p (named_by s l p) ≡ true → (named_by s l p - base) / 8 ≡ slot_of s l base p
unfolding slot_of
slot_some s l base p e = rw e

module _ (s : List ℕ) (l : ListKind) (base p x : ℕ) (e : x ≡ named_by s l p) where
  pub slot_before : x < base → window_places ≡ slot_of s l base p
  unfolding entry_in
  slot_before h = slot_none s l base p (rw (← e) (sym (no _ (λ z. omega (arith, z.0)))))

  pub slot_past : window_bytes ≤ x - base → window_places ≡ slot_of s l base p
  unfolding entry_in
  slot_past h = slot_none s l base p (rw (← e) (sym (no _ (λ z. omega (arith, z.1.0)))))

  pub slot_between : ((x - base) % 8 ≡ 0 → ⊥) → window_places ≡ slot_of s l base p
  unfolding entry_in
  slot_between h = slot_none s l base p (rw (← e) (sym (no _ (λ z. h z.1.1.0))))

  module _ (b : Bool) (q : b ≡ list_entry_of s l x p) where
    pub slot_other : b ≡ false → window_places ≡ slot_of s l base p
    unfolding entry_in
    slot_other h = slot_none s l base p (rw (← e) (sym (no _ (λ z. not_both z.1.1.1.0 (sym q ∙ h)))))

    pub slot_is : b ≡ true → base ≤ x → x - base < window_bytes → (x - base) % 8 ≡ 0 → (x - base) / 8 ≡ slot_of s l base p
    unfolding entry_in
    slot_is h i j k = rw e (slot_some s l base p (rw (← e) (sym (yes _ (i, (omega arith, (k, (sym q ∙ h, tt))))))))

-- an entry adds to the count of the record that it is of, and to no other
slot_each : (s : List ℕ) (l : ListKind) (base p j : ℕ) → j < window_places → eqb (slot_of s l base p) j ≡ list_entry_of s l (base + 8 * j) p
unfolding entry_in
slot_each s l base p j h = iff _ _ (λ e. to (entry_in s l base p (named_by s l p)) refl (eqb-true _ _ e)) from
  where
    to : (b : Bool) → entry_in s l base p (named_by s l p) ≡ b → slot_of s l base p ≡ j → list_entry_of s l (base + 8 * j) p ≡ true
    to true f e =
        let z = means _ f in
        let i : named_by s l p ≡ base + 8 * j = omega (arith, z.0, z.1.1.0, slot_some s l base p f, e) in
        rw (← i) z.1.1.1.0
    to false f e = absurd (omega (arith, slot_none s l base p f, e))

    from : list_entry_of s l (base + 8 * j) p ≡ true → eqb (slot_of s l base p) j ≡ true
    from e =
        let n = named_is s l (base + 8 * j) p e in
        let f : entry_in s l base p (named_by s l p) ≡ true = rw n (sym (yes _ (omega arith, (omega arith, (omega arith, (e, tt)))))) in
        let k : slot_of s l base p ≡ j = omega (arith, n, slot_some s l base p f) in
        eq-eqb _ _ k

-- counts

pub more_few : (c : ℕ) → c < 2 → c + 1 ≡ one_more c
unfolding one_more
more_few c h = rw (lt-leb 2 c h)

pub more_two : (c : ℕ) → 2 ≤ c → 2 ≡ one_more c
unfolding one_more
more_two c h = rw (le-leb 2 c h)

pub note_in : (cs : List ℕ) (j c : ℕ) → c ≡ one_more (get_or cs j 0) → set cs j c ≡ noted cs j
unfolding noted
note_in cs j c e = rw e

pub note_out : (cs : List ℕ) (j : ℕ) → length cs ≤ j → cs ≡ noted cs j
unfolding noted
note_out cs j h = sym (set_out cs j (one_more (get_or cs j 0)) h)

note_length : (cs : List ℕ) (j : ℕ) → length (noted cs j) ≡ length cs
unfolding noted
note_length cs j = length-set cs j (one_more (get_or cs j 0))

note_here : (cs : List ℕ) (j : ℕ) → j < length cs → get_or (noted cs j) j 0 ≡ one_more (get_or cs j 0)
unfolding noted
note_here cs j h = get_or-set_same cs j (one_more (get_or cs j 0)) 0 h

note_other : (cs : List ℕ) (j i : ℕ) → (i ≡ j → ⊥) → get_or (noted cs j) i 0 ≡ get_or cs i 0
unfolding noted
note_other cs j i h = get_or-set_other cs j i (one_more (get_or cs j 0)) 0 h

-- a number, but 2 where it is more
unfoldable up_to_two : ℕ → ℕ
up_to_two n = pick (leb 2 n) 2 n

two_few : (n : ℕ) → n < 2 → up_to_two n ≡ n
unfolding up_to_two
two_few n h = rw (lt-leb 2 n h)

two_many : (n : ℕ) → 2 ≤ n → up_to_two n ≡ 2
unfolding up_to_two
two_many n h = rw (le-leb 2 n h)

two_more : (n : ℕ) → one_more (up_to_two n) ≡ up_to_two (n + 1)
two_more n = go (leb 2 n) refl (leb 1 n) refl
  where
    go : (a : Bool) → leb 2 n ≡ a → (b : Bool) → leb 1 n ≡ b → one_more (up_to_two n) ≡ up_to_two (n + 1)
    go true e b f = let h = leb-true 2 n e in rw (two_many n h, two_many (n + 1) (omega arith)) (sym (more_two 2 (omega arith)))
    go false e true f =
        let h = leb-false 2 n e in
        let i = leb-true 1 n f in
        rw (two_few n h, two_many (n + 1) (omega arith)) (omega (arith, more_few n h))
    go false e false f =
        let h = leb-false 2 n e in
        let i = leb-false 1 n f in
        rw (two_few n h, two_few (n + 1) (omega arith)) (sym (more_few n h))

two_one : (n : ℕ) → up_to_two n ≡ 1 → n ≡ 1
two_one n e = go (leb 2 n) refl
  where
    go : (a : Bool) → leb 2 n ≡ a → n ≡ 1
    go true f = absurd (omega (arith, e, two_many n (leb-true 2 n f)))
    go false f = omega (arith, e, two_few n (leb-false 2 n f))

-- the counts of a window

tallied_length : (s : List ℕ) (l : ListKind) (base : ℕ) (cs : List ℕ) (k : ℕ) → length (tallied s l base cs k) ≡ length cs
unfolding tallied
tallied_length s l base cs zero = refl
tallied_length s l base cs (suc k) = note_length (tallied s l base cs k) _ ∙ tallied_length s l base cs k

tallied_each :
    (s : List ℕ) (l : ListKind) (base : ℕ) (cs : List ℕ) (j : ℕ) → j < window_places → length cs ≡ window_places → get_or cs j 0 ≡ 0 → (k : ℕ) →
    get_or (tallied s l base cs k) j 0 ≡ up_to_two (count_below k (list_entry_is s l (base + 8 * j)))
unfolding tallied
tallied_each s l base cs j h i z zero = z ∙ sym (ap up_to_two (count_none _) ∙ two_few 0 (omega arith))
tallied_each s l base cs j h i z (suc k) = go (list_entry_of s l (base + 8 * j) (list_entry_at s l k)) refl (tallied_each s l base cs j h i z k)
  where
    go :
        (b : Bool) → list_entry_of s l (base + 8 * j) (list_entry_at s l k) ≡ b → get_or (tallied s l base cs k) j 0 ≡ up_to_two (count_below k (list_entry_is s l (base + 8 * j))) →
        get_or (noted (tallied s l base cs k) (slot_of s l base (list_entry_at s l k))) j 0 ≡ up_to_two (count_below (suc k) (list_entry_is s l (base + 8 * j)))
    go true e r =
        let f : slot_of s l base (list_entry_at s l k) ≡ j = eqb-true _ _ (slot_each s l base (list_entry_at s l k) j h ∙ e) in
        let n : count_below (suc k) (list_entry_is s l (base + 8 * j)) ≡ count_below k (list_entry_is s l (base + 8 * j)) + 1 =
        rw (← add-one k) (count_more k (list_entry_is s l (base + 8 * j)) (entry_is s l (base + 8 * j) k ∙ e)) in
        rw (f, n)
        (note_here (tallied s l base cs k) j (omega (arith, tallied_length s l base cs k, i)) ∙ ap one_more r ∙ two_more (count_below k (list_entry_is s l (base + 8 * j))))
    go false e r =
        let f = eqb-false _ _ (slot_each s l base (list_entry_at s l k) j h ∙ e) in
        let n : count_below (suc k) (list_entry_is s l (base + 8 * j)) ≡ count_below k (list_entry_is s l (base + 8 * j)) =
        rw (← add-one k) (count_stay k (list_entry_is s l (base + 8 * j)) (entry_is s l (base + 8 * j) k ∙ e)) in
        rw n (note_other (tallied s l base cs k) (slot_of s l base (list_entry_at s l k)) j (λ g. f (sym g)) ∙ r)

pub counts_length : (s : List ℕ) (l : ListKind) (base : ℕ) → length (window_counts s l base) ≡ window_places
unfolding window_counts
counts_length s l base = tallied_length s l base (replicate window_places 0) (list_count s l) ∙ length-replicate {A = ℕ} window_places 0

counts_each :
    (s : List ℕ) (l : ListKind) (base j : ℕ) → j < window_places → get_or (window_counts s l base) j 0 ≡ up_to_two (count_below (list_count s l) (list_entry_is s l (base + 8 * j)))
unfolding window_counts
counts_each s l base j h =
    tallied_each s l base (replicate window_places 0) j h (length-replicate {A = ℕ} window_places 0) (get_or-replicate {A = ℕ} window_places j 0 0 h) (list_count s l)

-- a loop over the entries that adds them

pub record Tallying (s : List ℕ) (l : ListKind) (base : ℕ) (cs : List ℕ) (n p k : ℕ) (ds : List ℕ) : Type 0 where
  pub at : p ≡ list_entry_at s l k
  pub inside : k ≤ n
  pub same : ds ≡ tallied s l base cs k

pub tally_begin : (s : List ℕ) (l : ListKind) (base : ℕ) (cs : List ℕ) (n p : ℕ) → p ≡ list_entry_at s l 0 → Tallying s l base cs n p 0 cs
unfolding tallied
tally_begin s l base cs n p e = record { at = e; inside = omega arith; same = refl }

module _ (s : List ℕ) (l : ListKind) (base : ℕ) (cs : List ℕ) (n p k : ℕ) (ds : List ℕ) (g : Tallying s l base cs n p k ds) (q : n ≡ list_count s l) where
  pub tally_room : list_fits s l ≡ true → k < n → p ≤ length s + 12
  tally_room f h = omega (arith, g.at, list_room s l k f (omega arith))

  pub tally_more :
      (j z : ℕ) (es : List ℕ) → es ≡ noted ds j → j ≡ slot_of s l base p → z ≡ list_entry_size s l p → list_fits s l ≡ true → k < n → Tallying s l base cs n (p + z) (k + 1) es
  unfolding tallied
  tally_more j z es a b c f h =
      record {
        at = rw (c, g.at) (list_step s l k f (omega arith));
        inside = omega arith;
        same = rw (add-one, a, b, g.at, g.same);
      }

  pub tally_length : length ds ≡ length cs
  tally_length = ap length g.same ∙ tallied_length s l base cs k

  pub tally_all : n ≤ k → ds ≡ tallied s l base cs (list_count s l)
  tally_all h = let e : k ≡ list_count s l = omega (arith, g.inside) in g.same ∙ rw e

-- a record of the list's type in the window that is not counted once

module _ (s : List ℕ) (l : ListKind) (base : ℕ) (cs : List ℕ) (x k i : ℕ) (p : k ≡ type_at s x) (q : i ≡ listed_kind l) where
  pub not_once_type : (k ≡ i → ⊥) → false ≡ not_once_in s l base cs x
  unfolding not_once_in
  not_once_type h = no _ (λ z. h (p ∙ z.0 ∙ sym q))

  pub not_once_yes : k ≡ i → base ≤ x → (x - base) / 8 < length cs → (get_or cs ((x - base) / 8) 0 ≡ 1 → ⊥) → true ≡ not_once_in s l base cs x
  unfolding not_once_in count_not_one
  not_once_yes h f g e = yes _ (sym p ∙ h ∙ q, (sym (yes _ (f, (omega arith, (e, tt)))), tt))

module _ (s : List ℕ) (l : ListKind) (base : ℕ) (cs : List ℕ) (x : ℕ) where
  pub not_once_before : x < base → false ≡ not_once_in s l base cs x
  unfolding not_once_in count_not_one
  not_once_before h = no _ (λ z. let y = means _ z.1.0 in omega (arith, y.0))

  pub not_once_past : length cs ≤ (x - base) / 8 → false ≡ not_once_in s l base cs x
  unfolding not_once_in count_not_one
  not_once_past h = no _ (λ z. let y = means _ z.1.0 in omega (arith, y.1.0))

  pub not_once_once : get_or cs ((x - base) / 8) 0 ≡ 1 → false ≡ not_once_in s l base cs x
  unfolding not_once_in count_not_one
  not_once_once h = no _ (λ z. let y = means _ z.1.0 in y.1.1.0 h)

-- the first such record, by the counts of the window whole
pub window_first :
    (s : List ℕ) (l : ListKind) (base : ℕ) (zs cs : List ℕ) (f : Option ℕ) → zs ≡ replicate window_places 0 → cs ≡ tallied s l base zs (list_count s l) →
    f ≡ first_record s (header_end s) (not_once_in s l base cs) → f ≡ first_record s (header_end s) (not_once_in s l base (window_counts s l base))
unfolding window_counts
window_first s l base zs cs f z q e =
    e ∙ ap (λ (c : List ℕ). first_record s (header_end s) (not_once_in s l base c)) (q ∙ ap (λ (c : List ℕ). tallied s l base c (list_count s l)) z)

-- in the window, at a place, a record is right just where it is listed once

module _ (s : List ℕ) (l : ListKind) (base x : ℕ) (f : base ≤ x) (h : x < base + window_bytes) (e : (x - base) % 8 ≡ 0) where
  count_at_lem : get_or (window_counts s l base) ((x - base) / 8) 0 ≡ up_to_two (count_below (list_count s l) (list_entry_is s l x))
  count_at_lem =
      let j : base + 8 * ((x - base) / 8) ≡ x = omega arith in
      counts_each s l base ((x - base) / 8) (omega arith) ∙ rw j

  pub not_one_same : count_not_one base (window_counts s l base) x ≡ not (eqb (count_below (list_count s l) (list_entry_is s l x)) 1)
  unfolding count_not_one
  not_one_same =
      iff (count_not_one base (window_counts s l base) x) (not (eqb (count_below (list_count s l) (list_entry_is s l x)) 1))
      (λ z. ap not (ne_eqb (count_below (list_count s l) (list_entry_is s l x)) 1 (λ o. (means _ z).1.1.0 (count_at_lem ∙ ap up_to_two o ∙ two_few 1 (omega arith)))))
      (λ z.
      let n = counts_length s l base in
      let o = eqb-false (count_below (list_count s l) (list_entry_is s l x)) 1 (not-true _ z) in
      sym (yes _ (f, (omega arith, ((λ k. o (two_one _ (sym count_at_lem ∙ k))), tt)))))

pub not_one_before : (s : List ℕ) (l : ListKind) (base x : ℕ) → x < base → count_not_one base (window_counts s l base) x ≡ false
unfolding count_not_one
not_one_before s l base x h = sym (no _ (λ z. omega (arith, z.0)))

-- one that is not counted once stands in the window
not_once_inside : (s : List ℕ) (l : ListKind) (base x : ℕ) → not_once_in s l base (window_counts s l base) x ≡ true → x < base + window_bytes
unfolding not_once_in count_not_one
not_once_inside s l base x e =
    let z = means _ (means _ e).1.0 in
    omega (arith, z.0, z.1.0, counts_length s l base)

-- a loop over the windows

pub record Passed (s : List ℕ) (l : ListKind) (base : ℕ) : Type 0 where
  pub behind : header_end s ≤ base
  pub eights : (base - header_end s) % 8 ≡ 0
  pub once : (x : ℕ) → Memᴰ x (records_of s (listed_kind l)) → x < base → count_below (list_count s l) (list_entry_is s l x) ≡ 1

pub passed_begin : (s : List ℕ) (l : ListKind) (base : ℕ) → base ≡ header_end s → Passed s l base
passed_begin s l base e =
    record {
      behind = omega arith;
      eights = omega arith;
      once = λ x m h. let p = record_placed s (listed_kind l) m in absurd (omega (arith, p.behind));
    }

module _ (s : List ℕ) (l : ListKind) (base : ℕ) (g : Passed s l base) where
  -- up to the window's end, the records that it finds are those that are not listed once

  count_same :
      (x : ℕ) → Memᴰ x (records_of s (listed_kind l)) → x < base + window_bytes →
      count_not_one base (window_counts s l base) x ≡ not (eqb (count_below (list_count s l) (list_entry_is s l x)) 1)
  count_same x m h = go (leb base x) refl
    where
      go : (b : Bool) → leb base x ≡ b → count_not_one base (window_counts s l base) x ≡ not (eqb (count_below (list_count s l) (list_entry_is s l x)) 1)
      go true i =
          let p = record_placed s (listed_kind l) m in
          not_one_same s l base x (leb-true _ _ i) h (omega (arith, leb-true base x i, p.behind, p.eights, g.behind, g.eights))
      go false i = not_one_before s l base x (leb-false _ _ i) ∙ sym (ap not (eq-eqb _ 1 (g.once x m (leb-false _ _ i))))

  window_same :
      (x : ℕ) → Memᴰ x (starts s (header_end s)) → x < base + window_bytes → not_once_in s l base (window_counts s l base) x ≡ not_listed_once s l x
  unfolding not_once_in not_listed_once passes records
  window_same x m h = go (eqb (type_at s x) (listed_kind l)) refl
    where
      go :
          (b : Bool) → eqb (type_at s x) (listed_kind l) ≡ b →
          both (eqb (type_at s x) (listed_kind l)) (both (count_not_one base (window_counts s l base) x) true)
          ≡ both (eqb (type_at s x) (listed_kind l)) (both (not (eqb (count_below (list_count s l) (list_entry_is s l x)) 1)) true)
      go true e =
          ap (λ (c : Bool). both (eqb (type_at s x) (listed_kind l)) (both c true))
          (count_same x (type_of s (listed_kind l) m (eqb-true _ _ e)) h)
      go false e = rw e

  module _ (f : Option ℕ) (q : f ≡ first_record s (header_end s) (not_once_in s l base (window_counts s l base))) where
    pub passed_more : f ≡ None → Passed s l (base + window_bytes)
    unfolding records
    passed_more e =
        record {
          behind = omega (arith, g.behind);
          eights = omega (arith, g.behind, g.eights);
          once = λ x m h.
              let t = of_type s (listed_kind l) m in
              unlisted_not s l x t.1 (sym (window_same x t.0 h) ∙ none_means (not_once_in s l base (window_counts s l base)) s x (header_end s) (sym q ∙ e) t.0);
        }

    pub passed_found : (x : ℕ) → f ≡ Some x → Some x ≡ first_record s (header_end s) (not_listed_once s l)
    passed_found x e =
        let k = first_means (not_once_in s l base (window_counts s l base)) s x (header_end s) (sym q ∙ e) in
        let i = not_once_inside s l base x k.holds in
        first_is (not_listed_once s l) s x (header_end s)
        (record {
          member = k.member;
          holds = sym (window_same x k.member i) ∙ k.holds;
          before = λ y m h. sym (window_same y m (omega (arith, i, h))) ∙ k.before y m h;
        })

  pub passed_all : length s ≤ base → None ≡ first_record s (header_end s) (not_listed_once s l)
  unfolding not_listed_once records
  passed_all h =
      none_is (not_listed_once s l) s (header_end s)
      (λ x m.
      let p = placed s x (header_end s) m in
      sym (no _ (λ z. z.1.0 (g.once x (type_of s (listed_kind l) m z.0) (omega (arith, p.inside))))))

-- a window holds no such record just where it is right
pub window_found :
    (s : List ℕ) (l : ListKind) (base : ℕ) (cs : List ℕ) (f : Option ℕ) → cs ≡ window_counts s l base → f ≡ first_record s (header_end s) (not_once_in s l base cs) →
    not (is_found f) ≡ window_right s l base
unfolding window_right records_of records first_record not_once_in passes
window_found s l base cs f d e =
    ap (λ (g : Option ℕ). not (is_found g)) e
    ∙ sym
    (rw (← d)
    (every_found (λ x. not (count_not_one base cs x)) (λ x. eqb (type_at s x) (listed_kind l)) (not_once_in s l base cs) (λ x. go (eqb (type_at s x) (listed_kind l)) (count_not_one base cs x)) (starts s (header_end s))))
  where
    go : (a b : Bool) → both a (both b true) ≡ both a (not (not b))
    go true true = refl
    go true false = refl
    go false b = refl
