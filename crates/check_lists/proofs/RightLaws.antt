-- A window without a record that is not listed once, and the loop over the windows by it. Assumes nothing.
use Rattle.std.specs.Prelude.{None, Option, Some}
use Prim.Native.Nat.{ℕ, ◌+◌, ◌-◌, ◌%◌, ◌≤◌, ◌<◌}
use mathlib.Core.Path.{◌≡◌, refl, sym, ap, ◌∙◌}
use mathlib.Core.List.{List, Memᴰ}
use mathlib.Core.Bool.{Bool, true, false, not}
use native.Mathlib.Omega.{arith}
use lib.ListN.{length}
use lib.Dec.{leb, eqb}
use borrow.Author.Tests.{eqb-true, eq-eqb, leb-true, leb-false, not-true}
use Rattle.std.proofs.lemmas.Bool.{not-false}
use Rattle.wire.specs.Lists.{every, count_below}
use Rattle.wire.proofs.TestLaws.{no, no_true, not_both}
use Rattle.wire.proofs.ListLaws.{every_member, member_every}
use Rattle.record.specs.Chain.{first_record, header_end, records_of}
use Rattle.record.proofs.FindLaws.{is_found}
use Rattle.check_lists.specs.declared.ListKind.{ListKind}
use Rattle.check_lists.specs.Listed.{listed_once}
use Rattle.check_lists.specs.inner.Search.{listed_kind, list_count, list_entry_is}
use Rattle.check_lists.specs.inner.Windows.{count_not_one, not_once_in, window_bytes, window_counts, window_right}
use Rattle.check_lists.proofs.FirstLaws.{record_placed}
use Rattle.check_lists.proofs.WindowLaws.{Passed, counts_length, not_one_before, not_one_same, window_found}

-- a window holds no such record

module _
    (s : List ℕ) (l : ListKind) (base : ℕ) (f : Option ℕ) (e : f ≡ first_record s (header_end s) (not_once_in s l base (window_counts s l base)))
  where
    pub window_not : (x : ℕ) → f ≡ Some x → false ≡ window_right s l base
    window_not x p = ap (λ (g : Option ℕ). not (is_found g)) (sym p) ∙ window_found s l base (window_counts s l base) f refl e

    pub window_yes : f ≡ None → true ≡ window_right s l base
    window_yes p = ap (λ (g : Option ℕ). not (is_found g)) (sym p) ∙ window_found s l base (window_counts s l base) f refl e

-- in the window, at a place, a record is right just where it is listed once

module _ (s : List ℕ) (l : ListKind) (base x : ℕ) (f : base ≤ x) (h : x < base + window_bytes) (e : (x - base) % 8 ≡ 0) where
  not_one_once : count_not_one base (window_counts s l base) x ≡ false → count_below (list_count s l) (list_entry_is s l x) ≡ 1
  not_one_once g = eqb-true _ _ (not-false _ (sym (not_one_same s l base x f h e) ∙ g))

  once_not_one : count_below (list_count s l) (list_entry_is s l x) ≡ 1 → count_not_one base (window_counts s l base) x ≡ false
  once_not_one g = not_one_same s l base x f h e ∙ ap not (eq-eqb _ _ g)

not_one_outside : (s : List ℕ) (l : ListKind) (base x : ℕ) → base + window_bytes ≤ x → count_not_one base (window_counts s l base) x ≡ false
unfolding count_not_one
not_one_outside s l base x h = sym (no _ (λ z. let n = counts_length s l base in omega (arith, z.1.0)))

-- the loop over the windows

module _ (s : List ℕ) (l : ListKind) (base : ℕ) (g : Passed s l base) where
  module _ (r : Bool) (q : r ≡ window_right s l base) where
    pub passed_more : r ≡ true → Passed s l (base + window_bytes)
    unfolding window_right
    passed_more e =
        record {
          behind = omega (arith, g.behind);
          eights = omega (arith, g.behind, g.eights);
          once = λ x m h. go x m h (leb base x) refl;
        }
      where
        go :
            (x : ℕ) → Memᴰ x (records_of s (listed_kind l)) → x < base + window_bytes → (b : Bool) → leb base x ≡ b →
            count_below (list_count s l) (list_entry_is s l x) ≡ 1
        go x m h true i =
            let p = record_placed s (listed_kind l) m in
            not_one_once s l base x (leb-true _ _ i) h (omega (arith, leb-true base x i, p.behind, p.eights, g.behind, g.eights))
            (not-true _ (every_member _ (records_of s (listed_kind l)) (sym q ∙ e) m))
        go x m h false i = g.once x m (leb-false _ _ i)

    pub passed_not : r ≡ false → false ≡ listed_once s (listed_kind l) (list_count s l) (list_entry_is s l)
    unfolding window_right listed_once
    passed_not e = no_true _ (λ o. not_both (member_every _ (records_of s (listed_kind l)) (λ x m. all o x m (leb base x) refl (leb (base + window_bytes) x) refl)) (sym q ∙ e))
      where
        all :
            every (λ x. eqb (count_below (list_count s l) (list_entry_is s l x)) 1) (records_of s (listed_kind l)) ≡ true →
            (x : ℕ) → Memᴰ x (records_of s (listed_kind l)) → (b : Bool) → leb base x ≡ b → (c : Bool) → leb (base + window_bytes) x ≡ c →
            not (count_not_one base (window_counts s l base) x) ≡ true
        all o x m true i false j =
            let p = record_placed s (listed_kind l) m in
            rw (once_not_one s l base x (leb-true _ _ i) (leb-false _ _ j) (omega (arith, leb-true base x i, p.behind, p.eights, g.behind, g.eights))
            (eqb-true _ _ (every_member _ (records_of s (listed_kind l)) o m)))
        all o x m true i true j = rw (not_one_outside s l base x (leb-true _ _ j))
        all o x m false i c j = rw (not_one_before s l base x (leb-false _ _ i))

  pub passed_all : length s ≤ base → true ≡ listed_once s (listed_kind l) (list_count s l) (list_entry_is s l)
  unfolding listed_once
  passed_all h =
      sym
      (member_every _ (records_of s (listed_kind l))
      (λ x m. eq-eqb _ _ (g.once x m (let p = record_placed s (listed_kind l) m in omega (arith, p.inside)))))
