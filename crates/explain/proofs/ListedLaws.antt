-- Stage 9: a loop over the entries of a list that counts those of one record, and the first record that is not listed once. Assumes nothing.
use Rattle.std.specs.Prelude.{None, Option, Some}
use Prim.Native.Nat.{ℕ, ◌+◌, ◌≤◌, ◌<◌}
use mathlib.Core.Path.{◌≡◌, refl, sym, ap, ◌∙◌}
use mathlib.Core.List.{List, Memᴰ}
use mathlib.Core.Bool.{Bool, true, false}
use native.Mathlib.Omega.{arith}
use native.Mathlib.Numerals.{add-one}
use lib.ListN.{length}
use lib.Dec.{leb}
use borrow.Author.Tests.{leb-true, leb-false, le-leb, lt-leb, eq-eqb}
use Rattle.wire.specs.Lists.{one_if, count_below}
use Rattle.record.specs.Chain.{starts, first_record, header_end, records, records_of}
use Rattle.record.proofs.FindLaws.{of_type}
use Rattle.reasons.specs.Rows.{first_failing, Reason, equal}
use Rattle.reasons.proofs.ReasonLaws.{or_kept, first_none, first_more, row_kept}
use Rattle.check_lists.specs.declared.ListKind.{ListKind}
use Rattle.check_lists.specs.inner.Search.{listed_kind, list_count, list_fits, list_entry_at, list_entry_of, list_entry_is, list_entry_size, not_listed_once, first_unlisted}
use Rattle.check_lists.proofs.ListLaws.{list_room, list_step, entry_is}
use Rattle.check_lists.proofs.FirstLaws.{first_means, none_means}
use Rattle.check_lists.proofs.FindLaws.{unlisted_not}
use Rattle.explain.specs.DirectoryRows.{rows_over, once_rows, once_from_rows, place_or, asked_from}
use Rattle.explain.proofs.OverLaws.{over_same}
use Rattle.std.specs.Prelude.{Ok}

count_next : (k : ℕ) (f : ℕ → Bool) → count_below (k + 1) f ≡ count_below k f + one_if (f k)
unfolding count_below
count_next k f = rw add-one

pub once_yes : (b c : Bool) → b ≡ c → b ≡ true → 1 ≡ one_if c
unfolding one_if
once_yes b c p q = rw (← p, q)

pub once_no : (b c : Bool) → b ≡ c → b ≡ false → 0 ≡ one_if c
unfolding one_if
once_no b c p q = rw (← p, q)

-- entry k starts at p, and so many before it are those of the record
pub record Timing (s : List ℕ) (l : ListKind) (x p k found : ℕ) : Type 0 where
  pub at : p ≡ list_entry_at s l k
  pub same : found ≡ count_below k (list_entry_is s l x)

pub time_begin : (s : List ℕ) (l : ListKind) (x p : ℕ) → p ≡ list_entry_at s l 0 → Timing s l x p 0 0
unfolding count_below
time_begin s l x p e = record { at = e; same = refl }

module _ (s : List ℕ) (l : ListKind) (x n p k found : ℕ) (g : Timing s l x p k found) (q : n ≡ list_count s l) where
  pub time_room : list_fits s l ≡ true → k < n → p ≤ length s + 12
  time_room f h = omega (arith, g.at, list_room s l k f (omega arith))

  pub time_more :
      (d r : ℕ) → d ≡ one_if (list_entry_of s l x p) → r ≡ p + list_entry_size s l p → list_fits s l ≡ true → k < n →
      Timing s l x r (k + 1) (found + d)
  time_more d r a c f h =
      let e : one_if (list_entry_is s l x k) ≡ d = ap one_if (entry_is s l x k ∙ ap (list_entry_of s l x) (sym g.at)) ∙ sym a in
      record {
        at = c ∙ rw g.at (list_step s l k f (omega arith));
        same = omega (arith, g.same, count_next k (list_entry_is s l x), e);
      }

  pub time_all : n ≤ k → k ≤ n → found ≡ count_below (list_count s l) (list_entry_is s l x)
  time_all h i = let e : k ≡ list_count s l = omega arith in g.same ∙ rw e

-- records before the first that is not listed once keep their rows, so they need not be asked

pub asked_at : (s : List ℕ) (l : ListKind) (f : Option ℕ) (x : ℕ) → f ≡ first_unlisted s l → f ≡ Some x → x ≡ asked_from s l
unfolding asked_from
asked_at s l f x p e = rw (← p, e)

pub asked_end : (s : List ℕ) (l : ListKind) (f : Option ℕ) → f ≡ first_unlisted s l → f ≡ None → length s ≡ asked_from s l
unfolding asked_from
asked_end s l f p e = rw (← p, e)

before_asked :
    (s : List ℕ) (l : ListKind) (x : ℕ) → list_fits s l ≡ true → Memᴰ x (records_of s (listed_kind l)) → x < asked_from s l →
    count_below (list_count s l) (list_entry_is s l x) ≡ 1
unfolding asked_from first_unlisted records
before_asked s l x f m h =
    let t = of_type s (listed_kind l) m in
    unlisted_not s l x t.1 (go t.0 (first_record s (header_end s) (not_listed_once s l)) refl (rw f at h))
  where
    go :
        Memᴰ x (starts s (header_end s)) → (g : Option ℕ) → first_record s (header_end s) (not_listed_once s l) ≡ g →
        x < place_or (length s) (first_record s (header_end s) (not_listed_once s l)) → not_listed_once s l x ≡ false
    go n (Some y) e i = (first_means (not_listed_once s l) s y (header_end s) e).before x n (rw e at i)
    go n None e i = none_means (not_listed_once s l) s x (header_end s) e n

module _ (rule n : ℕ) (entryIs : ℕ → ℕ → Bool) (from k x : ℕ) where
  pub from_before : x < from → Ok tt ≡ first_failing (once_from_rows from rule n entryIs k x)
  unfolding once_from_rows
  from_before h = rw (lt-leb from x h) (sym first_none)

  pub from_behind : (r : Reason) → r ≡ first_failing (once_rows rule n entryIs k x) → from ≤ x → r ≡ first_failing (once_from_rows from rule n entryIs k x)
  unfolding once_from_rows
  from_behind r q h = rw (le-leb from x h) q

  once_kept : count_below n (entryIs x) ≡ 1 → Ok tt ≡ first_failing (once_rows rule n entryIs k x)
  unfolding once_rows
  once_kept e = sym (first_more _ _ ∙ or_kept _ _ (row_kept (equal rule k x (count_below n (entryIs x)) 1) (eq-eqb (count_below n (entryIs x)) 1 e)) ∙ first_none)

module _ (s : List ℕ) (l : ListKind) (rule from : ℕ) (f : list_fits s l ≡ true) (q : from ≡ asked_from s l) where
  from_same :
      (k x : ℕ) → Memᴰ x (records_of s (listed_kind l)) →
      first_failing (once_from_rows from rule (list_count s l) (list_entry_is s l) k x) ≡ first_failing (once_rows rule (list_count s l) (list_entry_is s l) k x)
  from_same k x m = go (leb from x) refl
    where
      go :
          (b : Bool) → leb from x ≡ b →
          first_failing (once_from_rows from rule (list_count s l) (list_entry_is s l) k x) ≡ first_failing (once_rows rule (list_count s l) (list_entry_is s l) k x)
      go true e = sym (from_behind rule (list_count s l) (list_entry_is s l) from k x _ refl (leb-true from x e))
      go false e =
          let h = leb-false from x e in
          sym (from_before rule (list_count s l) (list_entry_is s l) from k x h)
          ∙ once_kept rule (list_count s l) (list_entry_is s l) from k x (before_asked s l x f m (omega (arith, h, q)))

  pub once_told :
      (kind : ℕ) (r : Reason) → kind ≡ listed_kind l → r ≡ first_failing (rows_over (once_from_rows from rule (list_count s l) (list_entry_is s l)) 0 (records_of s kind)) →
      r ≡ first_failing (rows_over (once_rows rule (list_count s l) (list_entry_is s l)) 0 (records_of s kind))
  once_told kind r t e =
      e ∙ over_same (once_from_rows from rule (list_count s l) (list_entry_is s l)) (once_rows rule (list_count s l) (list_entry_is s l)) (records_of s kind)
      (λ k x m. from_same k x (rw t at m)) 0
