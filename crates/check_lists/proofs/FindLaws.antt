-- Rules over the records that a list names, by a search for a record that breaks them. Assumes nothing.
use Rattle.std.specs.Prelude.{None, Option, Some}
use Prim.Native.Nat.{ℕ}
use mathlib.Core.Path.{◌≡◌, refl, sym, ap, ◌∙◌}
use mathlib.Core.List.{List, [], ◌∷◌}
use mathlib.Core.Bool.{Bool, true, false, not}
use native.Mathlib.Omega.{arith}
use lib.ListN.{length}
use lib.Dec.{eqb}
use borrow.Author.Tests.{eqb-true, eqb-false}
use Rattle.wire.specs.Tests.{both, passes}
use Rattle.wire.proofs.TestLaws.{yes, no, not_both, either_way, below_each, below_all}
use Rattle.record.specs.Record.{type_at}
use Rattle.record.specs.Chain.{starts, first_record, header_end, records, records_of}
use Rattle.wire.proofs.CountLaws.{count_all, count_both, count_same, count_named}
use Rattle.record.proofs.FindLaws.{records_behind, is_found, every_found}
use Rattle.wire.specs.Lists.{every, some, count_below}
use Rattle.check_lists.specs.declared.ListKind.{ListKind}
use Rattle.check_lists.specs.Listed.{listed_once, nothing_else}
use Rattle.check_lists.specs.inner.Search.{listed_kind, list_count, list_fits, list_entry_is, list_right, not_listed_once, first_unlisted}
use Rattle.check_lists.proofs.ListLaws.{entry_alone}

-- where each record is listed once, nothing else is just where there are as many entries as records

module _ (s : List ℕ) (kind n : ℕ) (entryIs : ℕ → ℕ → Bool) (alone : (x y k : ℕ) → entryIs x k ≡ true → entryIs y k ≡ true → x ≡ y) (once : listed_once s kind n entryIs ≡ true) where
  abbrev named : ℕ → Bool
  named k = some (λ x. entryIs x k) (records_of s kind)

  named_count : count_below n named ≡ length (records_of s kind)
  unfolding listed_once
  named_count = count_named n entryIs alone 0 (records_of s kind) (records_behind s kind) once

  pub else_count : nothing_else s kind n entryIs ≡ true → n ≡ length (records_of s kind)
  unfolding nothing_else
  else_count e = sym (count_all n) ∙ count_same n (λ k. true) named (λ k h. sym (below_each n named e k h)) ∙ named_count

  pub count_else : n ≡ length (records_of s kind) → nothing_else s kind n entryIs ≡ true
  unfolding nothing_else
  count_else e = below_all n named (λ k h. count_both (λ j. true) named (λ j g. refl) n (count_all n ∙ e ∙ sym named_count) k h refl)

-- where there is no record, every one is

none_every : (p : ℕ → Bool) (l : List ℕ) → length l ≡ 0 → every p l ≡ true
unfolding every
none_every p [] e = refl
none_every p (x ∷ xs) e = absurd (omega arith)

none_once : (s : List ℕ) (kind n : ℕ) (entryIs : ℕ → ℕ → Bool) → length (records_of s kind) ≡ 0 → true ≡ listed_once s kind n entryIs
unfolding listed_once
none_once s kind n entryIs e = sym (none_every _ (records_of s kind) e)

-- a record of the list's type that is not one of those not listed once
pub unlisted_not :
    (s : List ℕ) (l : ListKind) (x : ℕ) → type_at s x ≡ listed_kind l → not_listed_once s l x ≡ false →
    count_below (list_count s l) (list_entry_is s l x) ≡ 1
unfolding not_listed_once
unlisted_not s l x t e = go (eqb (count_below (list_count s l) (list_entry_is s l x)) 1) refl
  where
    go : (b : Bool) → eqb (count_below (list_count s l) (list_entry_is s l x)) 1 ≡ b → count_below (list_count s l) (list_entry_is s l x) ≡ 1
    go true i = eqb-true _ _ i
    go false i = not_both (sym (yes _ (t, (eqb-false _ _ i, tt)))) e

-- every record is listed once just where none of those is found
pub once_found :
    (s : List ℕ) (l : ListKind) (f : Option ℕ) → f ≡ first_record s (header_end s) (not_listed_once s l) →
    not (is_found f) ≡ listed_once s (listed_kind l) (list_count s l) (list_entry_is s l)
unfolding listed_once records_of records first_record not_listed_once passes
once_found s l f e =
    ap (λ (g : Option ℕ). not (is_found g)) e
    ∙ sym
    (every_found (λ x. eqb (count_below (list_count s l) (list_entry_is s l x)) 1) (λ x. eqb (type_at s x) (listed_kind l)) (not_listed_once s l)
    (λ x. go (eqb (type_at s x) (listed_kind l)) (eqb (count_below (list_count s l) (list_entry_is s l x)) 1)) (starts s (header_end s)))
  where
    go : (a b : Bool) → both a (both (not b) true) ≡ both a (not b)
    go true true = refl
    go true false = refl
    go false b = refl

-- the first of them, where the list fits

module _ (s : List ℕ) (l : ListKind) (b : Bool) (p : b ≡ list_fits s l) where
  pub unlisted_fits : (r : Option ℕ) → b ≡ true → r ≡ first_record s (header_end s) (not_listed_once s l) → r ≡ first_unlisted s l
  unfolding first_unlisted
  unlisted_fits r e q = rw (← p, e) q

  pub unlisted_loose : b ≡ false → None ≡ first_unlisted s l
  unfolding first_unlisted
  unlisted_loose e = rw (← p, e)

-- a list, whole

pub list_loose : (s : List ℕ) (l : ListKind) (b : Bool) → b ≡ list_fits s l → b ≡ false → false ≡ list_right s l
unfolding list_right
list_loose s l b p e = no _ (λ y. not_both y.0 (sym p ∙ e))

module _ (s : List ℕ) (l : ListKind) (n m i : ℕ) (p : n ≡ list_count s l) (t : i ≡ listed_kind l) (q : m ≡ length (records_of s i)) where
  pub list_other : (n ≡ m → ⊥) → false ≡ list_right s l
  unfolding list_right
  list_other h =
      no _ (λ y. h (p ∙ else_count s (listed_kind l) (list_count s l) (list_entry_is s l) (entry_alone s l) y.1.0 y.1.1.0 ∙ sym (q ∙ rw t)))

  pub list_is : (b r : Bool) → b ≡ list_fits s l → b ≡ true → n ≡ m → r ≡ listed_once s (listed_kind l) (list_count s l) (list_entry_is s l) → r ≡ list_right s l
  unfolding list_right
  list_is b r f g h e =
      either_way _ r
      (λ z. (sym f ∙ g, (sym e ∙ z, (count_else s (listed_kind l) (list_count s l) (list_entry_is s l) (entry_alone s l) (sym e ∙ z) (sym p ∙ h ∙ q ∙ rw t), tt))))
      (λ z w. not_both w.1.0 (sym e ∙ z))

  pub list_none : (b : Bool) → b ≡ list_fits s l → b ≡ true → n ≡ m → m ≡ 0 → true ≡ list_right s l
  list_none b f g h e = list_is b true f g h (none_once s (listed_kind l) (list_count s l) (list_entry_is s l) (sym (q ∙ rw t) ∙ e))

  module _
      (b : Bool) (f : Option ℕ) (u : b ≡ list_fits s l) (v : b ≡ true) (h : n ≡ m) (e : f ≡ first_record s (header_end s) (not_listed_once s l))
    where
      pub list_found : (x : ℕ) → f ≡ Some x → false ≡ list_right s l
      list_found x g = list_is b false u v h (ap (λ (z : Option ℕ). not (is_found z)) (sym g) ∙ once_found s l f e)

      pub list_all : f ≡ None → true ≡ list_right s l
      list_all g = list_is b true u v h (ap (λ (z : Option ℕ). not (is_found z)) (sym g) ∙ once_found s l f e)
