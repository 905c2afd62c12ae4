-- The metadata directory's entries, from what the functions below them answer. Assumes nothing.
use Prim.Native.Nat.{ℕ, ◌+◌, ◌-◌, ◌≤◌, ◌<◌}
use mathlib.Core.Path.{◌≡◌, refl, sym, ◌∙◌}
use mathlib.Core.List.{List}
use mathlib.Core.Bool.{Bool, true, false, not}
use native.Mathlib.Omega.{arith}
use lib.ListN.{length}
use borrow.Author.Tests.{ne_eqb}
use Rattle.wire.specs.Bytes.{u64_at}
use Rattle.wire.specs.Items.{advance}
use Rattle.wire.proofs.TestLaws.{yes, no, not_both, either_way}
use Rattle.wire.proofs.ItemLaws.{advance_grows}
use Rattle.header.specs.Fields.{metadata_reference}
use Rattle.record.specs.Record.{record_limit, padded}
use Rattle.bodies.specs.MetadataRecord.{data_type}
use Rattle.record.proofs.FitLaws.{fit_over}
use Rattle.check_directory.proofs.RuleLaws.{not_told, is_told}
use Rattle.metadata_keys.specs.Pairs.{same_key}
use Rattle.check_lists.specs.Metadata.{metadata_entry_of, metadata_fits}
use Rattle.bodies.specs.ListDirectories.{metadata_at, metadata_count, metadata_entry_size, metadata_entry_end, metadata_entry_at}

-- an entry

module _ (s : List ℕ) (x p v : ℕ) (e : v ≡ u64_at s p) where
  pub no_content : v < 8 → false ≡ metadata_entry_of s x p
  unfolding metadata_entry_of
  no_content h = no _ (λ z. omega (arith, z.0))

  pub other_content : 8 ≤ v → (v - 8 ≡ x → ⊥) → false ≡ metadata_entry_of s x p
  unfolding metadata_entry_of
  other_content h k = no _ (λ z. k (omega (arith, z.0)))

  pub entry_yes :
      (b : Bool) (i j : ℕ) → 8 ≤ v → v - 8 ≡ x → b ≡ same_key s p x → not b ≡ false → i ≡ data_type s p → j ≡ data_type s x → i ≡ j →
      true ≡ metadata_entry_of s x p
  unfolding metadata_entry_of
  entry_yes b i j h k q f t u w = yes _ (omega arith, (is_told q f, (sym t ∙ w ∙ u, tt)))

pub other_key : (s : List ℕ) (x p : ℕ) (b : Bool) → b ≡ same_key s p x → not b ≡ true → false ≡ metadata_entry_of s x p
unfolding metadata_entry_of
other_key s x p b q f = no _ (λ z. not_both z.1.0 (not_told q f))

pub other_type : (s : List ℕ) (x p i j : ℕ) → i ≡ data_type s p → j ≡ data_type s x → (i ≡ j → ⊥) → false ≡ metadata_entry_of s x p
unfolding metadata_entry_of
other_type s x p i j t u h = no _ (λ z. h (t ∙ z.1.1.0 ∙ sym u))

-- where entries stand

pub end_is : (s : List ℕ) (p n : ℕ) → n ≡ metadata_entry_size s p → p + n ≡ metadata_entry_end s p
unfolding metadata_entry_end
end_is s p n e = rw e

pub end_grows : (s : List ℕ) (p : ℕ) → p ≤ metadata_entry_end s p
unfolding metadata_entry_end
end_grows s p = omega arith

pub entries_begin :
    (s : List ℕ) (d l n : ℕ) → d ≡ metadata_at s → l ≡ record_limit s d → n ≡ metadata_count s →
    advance (metadata_entry_end s) l n (d + 12) ≡ metadata_entry_at s (metadata_count s)
unfolding metadata_entry_at
entries_begin s d l n p q e = rw (q, e, p)

pub first_behind : (s : List ℕ) (k : ℕ) → metadata_at s + 12 ≤ metadata_entry_at s k
unfolding metadata_entry_at
first_behind s k = advance_grows (metadata_entry_end s) (record_limit s (metadata_at s)) (end_grows s) k (metadata_at s + 12)

-- they fit

pub limit_inside : (s : List ℕ) (d : ℕ) → record_limit s d ≤ length s
unfolding record_limit
limit_inside s d = omega arith

module _ (s : List ℕ) (r : ℕ) (p : r ≡ metadata_reference s) where
  pub fits_none : r ≡ 0 → true ≡ metadata_fits s
  unfolding metadata_fits
  fits_none h = rw (← p, h)

  module _ (some : r ≡ 0 → ⊥) where
    pub fits_past : (d : ℕ) → d ≡ metadata_at s → length s ≤ d → false ≡ metadata_fits s
    unfolding metadata_fits
    fits_past d t h =
        let e = fit_over s (metadata_at s) (record_limit s (metadata_at s)) (metadata_entry_at s (metadata_count s)) refl
        (omega (arith, limit_inside s (metadata_at s), first_behind s (metadata_count s))) in
        rw (← p, ne_eqb r 0 some) (no _ (λ y. not_both y.1.0 (sym e)))

    module _ (n : ℕ) (q : n ≡ metadata_count s) where
      pub fits_negative : 2147483647 < n → false ≡ metadata_fits s
      unfolding metadata_fits
      fits_negative h = rw (← p, ne_eqb r 0 some) (no _ (λ y. omega (arith, y.0)))

      pub fits_is : (d e : ℕ) (b : Bool) → d ≡ metadata_at s → n ≤ 2147483647 → e ≡ metadata_entry_at s (metadata_count s) → b ≡ padded s d e → b ≡ metadata_fits s
      unfolding metadata_fits
      fits_is d e b t h u v =
          let f : b ≡ padded s (metadata_at s) (metadata_entry_at s (metadata_count s)) = v ∙ rw (t, u) in
          rw (← p, ne_eqb r 0 some) (either_way _ b (λ z. (omega arith, (sym f ∙ z, tt))) (λ z y. not_both y.1.0 (sym f ∙ z)))
