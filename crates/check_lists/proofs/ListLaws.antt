-- The two lists by their names, and where the entries of one stand. Assumes nothing.
use Prim.Native.Nat.{ℕ, ◌+◌, ◌-◌, ◌≤◌, ◌<◌}
use mathlib.Core.Path.{◌≡◌, refl, sym, ◌∙◌}
use mathlib.Core.List.{List}
use mathlib.Core.Bool.{Bool, true, false}
use native.Mathlib.Omega.{arith}
use lib.ListN.{length}
use lib.Dec.{eqb}
use borrow.Author.Tests.{eqb-true, eqb-false, le-leb, ne_eqb}
use Rattle.wire.specs.Bytes.{u32_at, u64_at}
use Rattle.wire.proofs.TestLaws.{means, yes, no}
use Rattle.wire.proofs.ItemLaws.{advance_none, advance_more, advance_mono}
use Rattle.header.specs.Fields.{file_space_reference, metadata_reference}
use Rattle.header.specs.Element.{longest_string}
use Rattle.record.specs.Record.{length_at, record_limit, padded}
use Rattle.bodies.specs.ListDirectories.{entry_count, file_space_at, free_count, free_entry_at, metadata_at, metadata_count, metadata_entry_size, metadata_entry_end, metadata_entry_at}
use Rattle.check_lists.specs.declared.ListKind.{ListKind}
use Rattle.check_lists.specs.declared.ListKind.TheVariants.{FreeSpace, Metadata}
use Rattle.check_lists.specs.FileSpace.{free_entry_of, free_entry_is, free_fits}
use Rattle.check_lists.specs.Metadata.{metadata_entry_of, metadata_entry_is, metadata_fits}
use Rattle.check_lists.specs.inner.Search.{listed_kind, list_count, list_fits, list_entry_at, list_entry_size, list_entry_of, list_entry_is}
use Rattle.check_lists.proofs.MetadataLaws.{end_is, end_grows, limit_inside}

-- a free-space entry

module _ (s : List ℕ) (x p v : ℕ) (e : v ≡ u64_at s p) where
  pub other_start : (v ≡ x → ⊥) → false ≡ free_entry_of s x p
  unfolding free_entry_of
  other_start h = no _ (λ z. h (e ∙ z.0))

  module _ (i j : ℕ) (t : i ≡ u32_at s (p + 8)) (u : j ≡ length_at s x) where
    pub other_length : (i ≡ j → ⊥) → false ≡ free_entry_of s x p
    unfolding free_entry_of
    other_length h = no _ (λ z. h (t ∙ z.1.0 ∙ sym u))

    pub free_entry_lem : v ≡ x → i ≡ j → true ≡ free_entry_of s x p
    unfolding free_entry_of
    free_entry_lem h k = yes _ (sym e ∙ h, (sym t ∙ k ∙ u, tt))

-- by the list

pub kind_free : (l : ListKind) → l ≡ FreeSpace → 0 ≡ listed_kind l
unfolding listed_kind
kind_free l e = rw e

pub kind_metadata : (l : ListKind) → l ≡ Metadata → 1 ≡ listed_kind l
unfolding listed_kind
kind_metadata l e = rw e

module _ (s : List ℕ) (l : ListKind) (e : l ≡ FreeSpace) where
  pub count_free : (r : ℕ) → r ≡ free_count s → r ≡ list_count s l
  unfolding list_count
  count_free r q = rw e q

  pub fits_free : (r : Bool) → r ≡ free_fits s → r ≡ list_fits s l
  unfolding list_fits
  fits_free r q = rw e q

  pub size_free : (p : ℕ) → (12 ≡ list_entry_size s l p) × (12 ≤ 13 + longest_string)
  unfolding list_entry_size
  size_free p = (rw e, omega arith)

  pub of_free : (x p : ℕ) (r : Bool) → r ≡ free_entry_of s x p → r ≡ list_entry_of s l x p
  unfolding list_entry_of
  of_free x p r q = rw e q

  pub first_free : (d : ℕ) → d ≡ file_space_at s → d + 12 ≡ list_entry_at s l 0
  unfolding list_entry_at free_entry_at
  first_free d q = rw e (omega arith)

module _ (s : List ℕ) (l : ListKind) (e : l ≡ Metadata) where
  pub count_metadata : (r : ℕ) → r ≡ metadata_count s → r ≡ list_count s l
  unfolding list_count
  count_metadata r q = rw e q

  pub fits_metadata : (r : Bool) → r ≡ metadata_fits s → r ≡ list_fits s l
  unfolding list_fits
  fits_metadata r q = rw e q

  pub size_metadata : (p r : ℕ) → r ≡ metadata_entry_size s p → r ≤ 13 + longest_string → (r ≡ list_entry_size s l p) × (r ≤ 13 + longest_string)
  unfolding list_entry_size
  size_metadata p r q h = (rw e q, h)

  pub of_metadata : (x p : ℕ) (r : Bool) → r ≡ metadata_entry_of s x p → r ≡ list_entry_of s l x p
  unfolding list_entry_of
  of_metadata x p r q = rw e q

  pub first_metadata : (d : ℕ) → d ≡ metadata_at s → d + 12 ≡ list_entry_at s l 0
  unfolding list_entry_at metadata_entry_at
  first_metadata d q = rw (e, advance_none) (omega arith)

-- the entries of a list that fits stand in the file

none_counted : (s : List ℕ) (r : ℕ) → r ≡ 0 → entry_count s r ≡ 0
unfolding entry_count
none_counted s r e = rw e

free_none : (s : List ℕ) → file_space_reference s ≡ 0 → (free_count s ≡ 0) × (file_space_at s ≡ 0)
unfolding free_count file_space_at
free_none s e = (none_counted s _ e, omega arith)

free_last : (s : List ℕ) → free_fits s ≡ true → (file_space_reference s ≡ 0 → ⊥) → free_entry_at s (free_count s) ≤ length s
unfolding free_fits padded
free_last s f e =
    let y = means _ (rw (ne_eqb (file_space_reference s) 0 e) at f) in
    let w = means _ y.1.1.0 in
    omega (arith, w.0, limit_inside s (file_space_at s))

metadata_none : (s : List ℕ) → metadata_reference s ≡ 0 → (metadata_count s ≡ 0) × (metadata_at s ≡ 0)
unfolding metadata_count metadata_at
metadata_none s e = (none_counted s _ e, omega arith)

metadata_last : (s : List ℕ) → metadata_fits s ≡ true → (metadata_reference s ≡ 0 → ⊥) → metadata_entry_at s (metadata_count s) ≤ record_limit s (metadata_at s)
unfolding metadata_fits padded
metadata_last s f e = (means _ (means _ (rw (ne_eqb (metadata_reference s) 0 e) at f)).1.0).0

metadata_mono : (s : List ℕ) (k n : ℕ) → k ≤ n → metadata_entry_at s k ≤ metadata_entry_at s n
unfolding metadata_entry_at
metadata_mono s k n h =
    let m : n ≡ k + (n - k) = omega arith in
    rw m (advance_mono (metadata_entry_end s) (record_limit s (metadata_at s)) (end_grows s) k (n - k) (metadata_at s + 12))

metadata_first : (s : List ℕ) → metadata_entry_at s 0 ≡ metadata_at s + 12
unfolding metadata_entry_at
metadata_first s = advance_none (metadata_entry_end s) (record_limit s (metadata_at s)) (metadata_at s + 12)

metadata_next : (s : List ℕ) (k : ℕ) → metadata_entry_at s k ≤ record_limit s (metadata_at s) → metadata_entry_at s (k + 1) ≡ metadata_entry_end s (metadata_entry_at s k)
unfolding metadata_entry_at
metadata_next s k h =
    let e = le-leb (metadata_entry_at s k) (record_limit s (metadata_at s)) h in
    rw (advance_more (metadata_entry_end s) (record_limit s (metadata_at s)) k (metadata_at s + 12)) (rw e)

free_first : (s : List ℕ) (k : ℕ) → file_space_at s ≡ 0 → k ≤ 0 → free_entry_at s k ≤ length s + 12
unfolding free_entry_at
free_first s k e h = omega arith

free_mono : (s : List ℕ) (k : ℕ) → k ≤ free_count s → free_entry_at s (free_count s) ≤ length s → free_entry_at s k ≤ length s + 12
unfolding free_entry_at
free_mono s k h l = omega arith

free_next : (s : List ℕ) (k : ℕ) → free_entry_at s k + 12 ≡ free_entry_at s (k + 1)
unfolding free_entry_at
free_next s k = omega arith

pub list_room : (s : List ℕ) (l : ListKind) (k : ℕ) → list_fits s l ≡ true → k ≤ list_count s l → list_entry_at s l k ≤ length s + 12
unfolding list_fits list_count list_entry_at
list_room s FreeSpace k f h = go (eqb (file_space_reference s) 0) refl
  where
    last : (file_space_reference s ≡ 0 → ⊥) → free_entry_at s (free_count s) ≤ length s
    last = free_last s f

    none : file_space_reference s ≡ 0 → (free_count s ≡ 0) × (file_space_at s ≡ 0)
    none = free_none s

    go : (b : Bool) → eqb (file_space_reference s) 0 ≡ b → free_entry_at s k ≤ length s + 12
    go true e = let z = none (eqb-true _ _ e) in free_first s k z.1 (omega (arith, z.0))
    go false e = let z = last (eqb-false _ _ e) in free_mono s k h z
list_room s Metadata k f h = go (eqb (metadata_reference s) 0) refl
  where
    go : (b : Bool) → eqb (metadata_reference s) 0 ≡ b → metadata_entry_at s k ≤ length s + 12
    go true e =
        let z = metadata_none s (eqb-true _ _ e) in
        let m = metadata_mono s k 0 (omega (arith, z.0)) in
        omega (arith, metadata_first s, z.1)
    go false e =
        let z = metadata_last s f (eqb-false _ _ e) in
        let m = metadata_mono s k (metadata_count s) h in
        omega (arith, limit_inside s (metadata_at s))

-- one entry ends where the next starts
pub list_step :
    (s : List ℕ) (l : ListKind) (k : ℕ) → list_fits s l ≡ true → k < list_count s l →
    list_entry_at s l k + list_entry_size s l (list_entry_at s l k) ≡ list_entry_at s l (k + 1)
unfolding list_fits list_count list_entry_at list_entry_size
list_step s FreeSpace k f h = free_next s k
list_step s Metadata k f h = go (eqb (metadata_reference s) 0) refl
  where
    go : (b : Bool) → eqb (metadata_reference s) 0 ≡ b → metadata_entry_at s k + metadata_entry_size s (metadata_entry_at s k) ≡ metadata_entry_at s (k + 1)
    go true e = let z = metadata_none s (eqb-true _ _ e) in absurd (omega (arith, z.0))
    go false e =
        let z = metadata_last s f (eqb-false _ _ e) in
        let m = metadata_mono s k (metadata_count s) (omega arith) in
        end_is s (metadata_entry_at s k) (metadata_entry_size s (metadata_entry_at s k)) refl ∙ sym (metadata_next s k (omega arith))

pub entry_is : (s : List ℕ) (l : ListKind) (x k : ℕ) → list_entry_is s l x k ≡ list_entry_of s l x (list_entry_at s l k)
unfolding list_entry_is list_entry_of list_entry_at free_entry_is metadata_entry_is
entry_is s FreeSpace x k = refl
entry_is s Metadata x k = refl

-- an entry is that of one record only
pub entry_alone : (s : List ℕ) (l : ListKind) (x y k : ℕ) → list_entry_is s l x k ≡ true → list_entry_is s l y k ≡ true → x ≡ y
unfolding list_entry_is free_entry_is free_entry_of metadata_entry_is metadata_entry_of
entry_alone s FreeSpace x y k e f = omega (arith, (means _ e).0, (means _ f).0)
entry_alone s Metadata x y k e f = omega (arith, (means _ e).0, (means _ f).0)
