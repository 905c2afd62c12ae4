-- Stage 9's metadata rules where metadata records and their directory stay. Assumes nothing.
use Prim.Native.Nat.{ℕ, ◌+◌, ◌-◌, ◌≤◌, ◌<◌}
use mathlib.Core.Path.{◌≡◌, refl, sym, ap, ◌∙◌}
use mathlib.Core.List.{List, [], ◌∷◌, Memᴰ}
use mathlib.Core.Bool.{Bool, true, false}
use native.Mathlib.Omega.{arith}
use lib.Dec.{eqb}
use borrow.Author.Tests.{eqb-true, eqb-false, ne_eqb, le-leb}
use Rattle.wire.specs.Bytes.{u32_at, u64_at, number_at, largest_integer}
use Rattle.wire.specs.Lists.{every, some}
use Rattle.wire.proofs.TestLaws.{means, yes, iff, below_same}
use Rattle.wire.proofs.ItemLaws.{advance_same, advance_mono, advance_more}
use Rattle.wire.proofs.CountLaws.{count_same}
use Rattle.wire.proofs.ListLaws.{some_member}
use Rattle.record.specs.Record.{content_at, record_limit, padded}
use Rattle.record.specs.Chain.{records_of}
use Rattle.header.specs.Fields.{metadata_reference}
use Rattle.header.specs.Element.{string_size, string_end}
use Rattle.bodies.specs.MetadataRecord.{record_id_at}
use Rattle.bodies.specs.ListDirectories.{entry_count, metadata_at, metadata_count, metadata_entry_size, metadata_entry_end, metadata_entry_at}
use Rattle.check_directory.specs.References.{refers_to, refers_or_zero, no_other}
use Rattle.check_lists.specs.Listed.{listed_once, nothing_else}
use Rattle.metadata_keys.specs.Pairs.{same_key, keys_distinct}
use Rattle.check_lists.specs.Metadata.{metadata_entry_of, metadata_entry_is, metadata_listed, metadata_only, metadata_fits, metadata_directory_right}
use Rattle.check_lists.proofs.MetadataLaws.{end_grows, first_behind}
use Rattle.alone.specs.Alone.{SameRecord, SameMetadata}
use Rattle.alone.specs.MetadataKept.{SameMetadataRecords, MetadataKept}
use Rattle.alone.proofs.MovedLaws.{record_sym, limit_first, limit_second, offset_self, offset_number, moved_inner}
use Rattle.alone.proofs.MetadataLaws.{name_same, id_same, code_same, metadata_alone}
use Rattle.alone.proofs.AloneLaws.{metadata_same}

-- rules that say the same of each member

pub every_same : (p q : ℕ → Bool) (l : List ℕ) → ((x : ℕ) → Memᴰ x l → p x ≡ q x) → every p l ≡ every q l
unfolding every
every_same p q [] f = refl
every_same p q (y ∷ ys) f = rw (f y (Memᴰ.head refl), every_same p q ys (λ x m. f x (Memᴰ.tail m)))

pub some_same : (p q : ℕ → Bool) (l : List ℕ) → ((x : ℕ) → Memᴰ x l → p x ≡ q x) → some p l ≡ some q l
unfolding some
some_same p q [] f = refl
some_same p q (y ∷ ys) f = rw (f y (Memᴰ.head refl), some_same p q ys (λ x m. f x (Memᴰ.tail m)))

pub kept_sym : {s t : List ℕ} → SameMetadataRecords s t → SameMetadataRecords t s
kept_sym {s} {t} k =
    record {
      reference = sym k.reference;
      records = sym k.records;
      directories = sym k.directories;
      record_same = λ x m. record_sym (k.record_same x (rw k.records m));
      record_right = λ x m. let n : Memᴰ x (records_of s 1) = rw k.records m in sym (metadata_same (k.record_same x n)) ∙ k.record_right x n;
      directory_same = λ x m. record_sym (k.directory_same x (rw k.directories m));
    }

-- the entries of both directories say the same
record Entries (s t : List ℕ) : Type 0 where
  pub count : metadata_count s ≡ metadata_count t
  pub fits : metadata_fits t ≡ true
  pub each : (k : ℕ) → k < metadata_count s → (x : ℕ) → Memᴰ x (records_of s 1) → metadata_entry_is s x k ≡ metadata_entry_is t x k

module _ (s t : List ℕ) (k : SameMetadataRecords s t) where
  fields : (x : ℕ) → Memᴰ x (records_of s 1) → SameMetadata s x t x
  fields x m = metadata_alone s x t x (k.record_same x m) (k.record_right x m)

  keys_same : keys_distinct s ≡ keys_distinct t
  unfolding keys_distinct same_key
  keys_same =
      rw (← k.records)
      (every_same _ _ (records_of s 1)
      (λ x m. every_same _ _ (records_of s 1) (λ y n. rw ((fields x m).name, (fields y n).name, (fields x m).id, (fields y n).id))))

  -- no directory
  zero_entries : metadata_reference s ≡ 0 → Entries s t
  unfolding metadata_count entry_count metadata_fits
  zero_entries z =
      let w : metadata_reference t ≡ 0 = sym k.reference ∙ z in
      record { count = rw (z, w); fits = rw w; each = λ i h x m. absurd (none i (rw z at h)) }
    where
      none : (i : ℕ) → i < 0 → ⊥
      none i h = omega arith

  -- one directory, at d
  module _ (d : ℕ) (r : SameRecord s d t d) (e : content_at d ≡ metadata_reference s) where
    at_first : metadata_at s ≡ d
    unfolding metadata_at
    at_first = omega (arith, e)

    at_second : metadata_at t ≡ d
    unfolding metadata_at
    at_second = omega (arith, e, k.reference)

    count_is : metadata_count s ≡ metadata_count t
    unfolding metadata_count entry_count
    count_is =
        let a : u32_at s (d + 8) ≡ u32_at t (d + 8) = offset_number r.moved (offset_self d (d + 8) (omega arith)) 4 (omega (arith, r.long)) in
        rw (← k.reference, ← e, a)

    limit_same : record_limit s d ≡ record_limit t d
    limit_same = limit_first r ∙ sym (limit_second r)

    end_is : (s : List ℕ) (p : ℕ) → metadata_entry_end s p ≡ record_id_at s p + 5
    unfolding metadata_entry_end metadata_entry_size record_id_at string_end
    end_is s p = omega arith

    id_behind : (s : List ℕ) (p : ℕ) → p + 10 ≤ record_id_at s p
    unfolding record_id_at string_end string_size
    id_behind s p = omega arith

    end_same : (p : ℕ) → d ≤ p → metadata_entry_end s p ≤ record_limit s d → metadata_entry_end s p ≡ metadata_entry_end t p
    unfolding metadata_entry_end metadata_entry_size string_size
    end_same p h l =
        let a : number_at 2 s (p + 8) ≡ number_at 2 t (p + 8) =
        offset_number r.moved (offset_self d (p + 8) (omega arith)) 2 (omega (arith, r.long, limit_first r)) in
        rw a

    entry_at_lem : (j : ℕ) → metadata_entry_at s j ≤ record_limit s d → metadata_entry_at s j ≡ metadata_entry_at t j
    unfolding metadata_entry_at
    entry_at_lem j h =
        rw (at_first, at_second, ← limit_same)
        (advance_same (metadata_entry_end s) (metadata_entry_end t) (record_limit s d) d (end_grows s) end_same j (d + 12) (omega arith) (rw at_first at h))

    entry_mono : (i j : ℕ) → i ≤ j → metadata_entry_at s i ≤ metadata_entry_at s j
    unfolding metadata_entry_at
    entry_mono i j h =
        let q : i + (j - i) ≡ j = omega arith in
        rw q at (advance_mono (metadata_entry_end s) (record_limit s (metadata_at s)) (end_grows s) i (j - i) (metadata_at s + 12))

    entry_next : (j : ℕ) → metadata_entry_at s j ≤ record_limit s d → metadata_entry_at s (j + 1) ≡ metadata_entry_end s (metadata_entry_at s j)
    unfolding metadata_entry_at
    entry_next j h =
        rw at_first (advance_more (metadata_entry_end s) (record_limit s d) j (d + 12) ∙ rw (le-leb _ _ (rw at_first at h)))

    -- an entry that ends in the record
    entry_of : (p : ℕ) → d ≤ p → record_id_at s p + 5 ≤ record_limit s d → (x : ℕ) → Memᴰ x (records_of s 1) → metadata_entry_of s x p ≡ metadata_entry_of t x p
    unfolding metadata_entry_of same_key
    entry_of p h l x m =
        let b = id_behind s p in
        let n = moved_inner r.moved (offset_self d p h) (record_id_at s p + 5 - p) (omega (arith, r.long, limit_first r)) in
        let a : record_id_at s p + 5 ≤ p + (record_id_at s p + 5 - p) = omega arith in
        let c : u64_at s p ≡ u64_at t p = offset_number r.moved (offset_self d p h) 8 (omega (arith, r.long, limit_first r)) in
        let f = fields x m in
        rw (c, name_same n a, id_same n a, code_same n a, f.name, f.id, f.code)

    module _ (z : metadata_reference s ≡ 0 → ⊥) (f : metadata_fits s ≡ true) where
      counted : (metadata_count s ≤ largest_integer) × (padded s (metadata_at s) (metadata_entry_at s (metadata_count s)) ≡ true)
      unfolding metadata_fits
      counted = let a = means _ (rw (ne_eqb (metadata_reference s) 0 z) at f) in (a.0, a.1.0)

      last_fits : (metadata_entry_at s (metadata_count s) ≤ record_limit s d) × (record_limit s d ≤ metadata_entry_at s (metadata_count s) + 7)
      unfolding padded
      last_fits = let a = means _ (rw at_first at counted.1) in (a.0, a.1.0)

      last_same : metadata_entry_at s (metadata_count s) ≡ metadata_entry_at t (metadata_count t)
      last_same = entry_at_lem (metadata_count s) last_fits.0 ∙ ap (metadata_entry_at t) count_is

      fits_to : metadata_fits t ≡ true
      unfolding metadata_fits padded
      fits_to =
          let w : metadata_reference t ≡ 0 → ⊥ = λ q. z (k.reference ∙ q) in
          rw (ne_eqb (metadata_reference t) 0 w, at_second, ← last_same, ← count_is, ← limit_same)
          (sym (yes _ (counted.0, (sym (yes _ (last_fits.0, (last_fits.1, tt))), tt))))

      entry_is : (j : ℕ) → j < metadata_count s → (x : ℕ) → Memᴰ x (records_of s 1) → metadata_entry_is s x j ≡ metadata_entry_is t x j
      unfolding metadata_entry_is
      entry_is j h x m =
          let l = last_fits.0 in
          let a = entry_mono j (metadata_count s) (omega arith) in
          let b = entry_mono (j + 1) (metadata_count s) (omega arith) in
          let c = entry_next j (omega arith) in
          let n = end_is s (metadata_entry_at s j) in
          let g : d ≤ metadata_entry_at s j = omega (arith, first_behind s j, at_first) in
          entry_of (metadata_entry_at s j) g (omega arith) x m ∙ ap (metadata_entry_of t x) (entry_at_lem j (omega arith))

      one_entries : Entries s t
      one_entries = record { count = count_is; fits = fits_to; each = entry_is }

  refers : refers_or_zero t 4 (metadata_reference t) ≡ refers_or_zero s 4 (metadata_reference s)
  unfolding refers_or_zero refers_to
  refers = rw (← k.reference, ← k.directories)

  others : no_other t 4 (metadata_reference t) ≡ no_other s 4 (metadata_reference s)
  unfolding no_other
  others = rw (← k.reference, ← k.directories)

  -- either way
  entries : refers_or_zero s 4 (metadata_reference s) ≡ true → metadata_fits s ≡ true → Entries s t
  unfolding refers_or_zero refers_to
  entries e f = go (eqb (metadata_reference s) 0) refl
    where
      go : (b : Bool) → eqb (metadata_reference s) 0 ≡ b → Entries s t
      go true i = zero_entries (eqb-true _ _ i)
      go false i =
          some_member (Entries s t) (λ x. eqb (content_at x) (metadata_reference s)) (records_of s 4) (rw i at e)
          (λ d m h. one_entries d (k.directory_same d m) (eqb-true _ _ h) (eqb-false _ _ i) f)

  listed_same : Entries s t → metadata_listed s ≡ metadata_listed t
  unfolding metadata_listed listed_once
  listed_same n =
      rw (← k.records, ← n.count)
      (every_same _ _ (records_of s 1)
      (λ x m. rw (count_same (metadata_count s) (metadata_entry_is s x) (metadata_entry_is t x) (λ j h. n.each j h x m))))

  only_same : Entries s t → metadata_only s ≡ metadata_only t
  unfolding metadata_only nothing_else
  only_same n =
      rw (← k.records, ← n.count)
      (below_same (metadata_count s) _ _ (λ j h. some_same _ _ (records_of s 1) (λ x m. n.each j h x m)))

  directory_to : metadata_directory_right s ≡ true → metadata_directory_right t ≡ true
  unfolding metadata_directory_right
  directory_to e =
      let a = means _ e in
      let n = entries a.0 a.1.1.0 in
      sym
      (yes _
      (refers ∙ a.0, (others ∙ a.1.0, (n.fits, (sym (listed_same n) ∙ a.1.1.1.0, (sym (only_same n) ∙ a.1.1.1.1.0, (sym keys_same ∙ a.1.1.1.1.1.0, tt)))))))

pub metadata_kept : MetadataKept
metadata_kept s t k = iff _ _ (directory_to s t k) (directory_to t s (kept_sym k))
