-- A kept record of an open page s, read from a buffer l that holds its bytes: what is put for it is what the page's definitions say.
-- Assumes nothing.
use Prim.Native.Nat.{ℕ, zero, suc, ◌+◌, ◌*◌, ◌-◌, ◌≤◌, ◌<◌}
use mathlib.Core.Path.{◌≡◌, refl, sym, ap, ◌∙◌}
use mathlib.Core.Logic.{◌⊎◌, inl, inr}
use mathlib.Core.List.{List, Memᴰ}
use mathlib.Core.Bool.{Bool, true, false}
use native.Mathlib.Omega.{arith}
use native.Mathlib.Numerals.{add-one}
use lib.Dec.{eqb}
use native.Mathlib.Nat.{mul-le-mul_left, mul-suc, mul_comm}
use borrow.Author.Tests.{eqb-true, eq-eqb, ne_eqb, le-leb}
use Rattle.wire.specs.Pick.{pick}
use Rattle.wire.specs.Bytes.{number_at, u16_at, u32_at, u64_at, part, bytes_of, Same}
use Rattle.wire.specs.Items.{advance}
use Rattle.wire.proofs.TestLaws.{means}
use Rattle.wire.proofs.ByteLaws.{part_same, byte_same, number_same}
use Rattle.wire.proofs.ItemLaws.{advance_none, advance_more, advance_same, advance_mono, item_within}
use Rattle.wire.proofs.ListLaws.{every_member, member_select}
use Rattle.record.specs.Record.{length_at, type_at, content_at, record_ok, record_limit, padded}
use Rattle.record.specs.Chain.{header_end, records, records_of}
use Rattle.record.proofs.ChainLaws.{IsRecord, ok_means, starts_ok}
use Rattle.header.specs.Fields.{checksum_enabled, metadata_reference, tile_directory_reference}
use Rattle.header.specs.Element.{string_size}
use Rattle.bodies.specs.TileDirectory.{tile_directory_at, standard_references, reference_count, reference_size, reference_at, references_end}
use Rattle.bodies.specs.ListDirectories.{entry_count, metadata_at, metadata_count, metadata_entry_size, metadata_entry_end, metadata_entry_at}
use Rattle.check_directory.specs.References.{no_other}
use Rattle.check_directory.specs.TileRules.{tile_directory_right}
use Rattle.check_lists.specs.Metadata.{metadata_fits, metadata_directory_right}
use Rattle.check_lists.proofs.MetadataLaws.{end_grows, first_behind}
use Rattle.pieces.specs.Pieces.{piece_at}
use Rattle.pieces.specs.Edits.{resealed, reference_bytes}
use Rattle.pieces.proofs.SplitLaws.{piece_type}
use Rattle.writable.specs.Writable.{Open}
use Rattle.correct.specs.Renamed.{put_each, tiles_renamed, metadata_renamed, renamed_in}
use Rattle.squeeze.specs.Fields.{reference_read, field_size, field_end, field_at, field_in, field_then, fields_put, FieldsFit}
use Rattle.squeeze.specs.Kept.{width_at, count_at, tiles_put, metadata_put, kept_put, TilesFit, MetadataFit, KeptFits}
use Rattle.squeeze.proofs.FieldLaws.{size_least, at_next, at_inside}

-- the same fields at the same places
each_alike :
    (at to : ℕ → ℕ) (v w : ℕ → List ℕ) (n : ℕ) (r : List ℕ) → ((i : ℕ) → i < n → at i ≡ to i) → ((i : ℕ) → i < n → v i ≡ w i) →
    put_each at v n r ≡ put_each to w n r
unfolding put_each
each_alike at to v w zero r f g = refl
each_alike at to v w (suc n) r f g =
    rw (each_alike at to v w n r (λ i h. f i (omega arith)) (λ i h. g i (omega arith)), f n (omega arith), g n (omega arith))

-- references one behind the other
plain_at :
    (l : List ℕ) (x n first w count : ℕ) → x + first + w * count ≤ x + (n - 4) → (i : ℕ) → i ≤ count → field_at l x n first false w i ≡ x + (first + w * i)
unfolding field_at field_end field_size
plain_at l x n first w count h zero g = advance_none (field_end l false w) (x + (n - 4)) (x + first) ∙ omega arith
plain_at l x n first w count h (suc i) g =
    let r : advance (field_end l false w) (x + (n - 4)) i (x + first) ≡ x + (first + w * i) = plain_at l x n first w count h i (omega arith) in
    let a = mul-le-mul_left w g in
    let b = mul-suc w i in
    let c : advance (field_end l false w) (x + (n - 4)) i (x + first) ≤ x + (n - 4) = omega arith in
    let u : advance (field_end l false w) (x + (n - 4)) (i + 1) (x + first) ≡ advance (field_end l false w) (x + (n - 4)) i (x + first) + w =
    advance_more (field_end l false w) (x + (n - 4)) i (x + first) ∙ rw (le-leb _ _ c) in
    rw (← add-one i) (omega arith)

module _ (s l : List ℕ) (x : ℕ) (o : Open s) (m : Memᴰ x (records s)) (same : Same l s x (x + length_at s x)) where
  ok : record_ok s x ≡ true
  unfolding records
  ok = starts_ok s x (header_end s) m

  abbrev n : ℕ
  n = length_at s x

  is : IsRecord s x
  is = ok_means s x ok

  long_same : length_at l x ≡ n
  long_same = number_same same 4 x (omega arith) (omega (arith, is.long))

  type_same : type_at l x ≡ type_at s x
  type_same = byte_same same (x + 4) (omega arith) (omega (arith, is.long))

  number_there : (w i : ℕ) → i + w ≤ n → number_at w l (x + i) ≡ number_at w s (x + i)
  number_there w i h = number_same same w (x + i) (omega arith) (omega arith)

  part_there : part l x n ≡ part s x n
  part_there = part_same same x n (omega arith) (omega arith)

  piece_same : piece_at l x ≡ piece_at s x
  unfolding piece_at
  piece_same = ap (part l x) long_same ∙ part_there

  limit_is : record_limit s x ≡ x + (n - 4)
  unfolding record_limit
  limit_is = omega (arith, is.inside, is.long)

  of_kind : (kind reference : ℕ) → no_other s kind reference ≡ true → type_at s x ≡ kind → content_at x ≡ reference
  unfolding no_other records_of
  of_kind kind reference h e =
      eqb-true _ _ (every_member (λ y. eqb (content_at y) reference) (records_of s kind) h (member_select (λ y. eqb (type_at s y) kind) (records s) m (eq-eqb (type_at s x) kind e)))

  -- the tile directory

  module _ (e : type_at s x ≡ 5) where
    right : tile_directory_right s ≡ true
    right = o.sound.tile_directory

    tiles_at_lem : tile_directory_at s ≡ x
    unfolding tile_directory_at tile_directory_right
    tiles_at_lem = omega (arith, of_kind 5 (tile_directory_reference s) (means _ right).1.0 e)

    padded_is : padded s (tile_directory_at s) (references_end s) ≡ true
    unfolding tile_directory_right
    padded_is = (means _ right).1.1.1.1.0

    ends : x + 32 + reference_count s * reference_size s ≤ x + (n - 4)
    unfolding padded references_end
    ends = let h = (means _ padded_is).0 in omega (arith, tiles_at_lem, ap (record_limit s) tiles_at_lem, limit_is)

    width_same : width_at l x ≡ reference_size s
    unfolding width_at reference_size
    width_same = rw (tiles_at_lem, byte_same same (x + 9) (omega arith) (omega (arith, is.long)))

    count_same : count_at l x ≡ reference_count s
    unfolding count_at
    count_same = rw (tiles_at_lem, number_there 4 24 (omega (arith, ends)), number_there 4 28 (omega (arith, ends)))

    wide : (reference_size s ≡ 8) ⊎ (reference_size s ≡ 4)
    unfolding reference_size
    wide = go (eqb (standard_references s (tile_directory_at s)) 1)
      where
        go : (b : Bool) → (◌≡◌ {A = ℕ} (pick b 8 4) 8) ⊎ (◌≡◌ {A = ℕ} (pick b 8 4) 4)
        go true = inl refl
        go false = inr refl

    placed : (i : ℕ) → i ≤ reference_count s → field_at l x n 32 false (reference_size s) i ≡ x + (32 + reference_size s * i)
    placed i h = plain_at l x n 32 (reference_size s) (reference_count s) (omega (arith, ends, mul_comm (reference_count s) (reference_size s))) i h

    in_record : (i : ℕ) → i < reference_count s → 32 + reference_size s * i + reference_size s ≤ n
    in_record i h = omega (arith, ends, item_within (reference_count s) i (reference_size s) h, mul_comm i (reference_size s), is.long)

    read_is :
        (b : Bool) (w i : ℕ) → w ≡ pick b 8 4 → 32 + w * i + w ≤ n →
        reference_read w l (x + (32 + w * i)) ≡ pick b (u64_at s (x + 32 + 8 * i)) (u32_at s (x + 32 + 4 * i) * 8)
    unfolding reference_read
    read_is true w i z h =
        let y : 32 + 8 * i + 8 ≤ n = rw z at h in
        let a : x + (32 + 8 * i) ≡ x + 32 + 8 * i = omega arith in
        rw z (number_there 8 (32 + 8 * i) y ∙ ap (u64_at s) a)
    read_is false w i z h =
        let y : 32 + 4 * i + 4 ≤ n = rw z at h in
        let a : x + (32 + 4 * i) ≡ x + 32 + 4 * i = omega arith in
        rw z (ap (λ (c : ℕ). c * 8) (number_there 4 (32 + 4 * i) y ∙ ap (u32_at s) a))

    size_is : reference_size s ≡ pick (eqb (standard_references s x) 1) 8 4
    unfolding reference_size
    size_is = rw tiles_at_lem

    reads : (i : ℕ) → i < reference_count s → reference_read (reference_size s) l (x + (32 + reference_size s * i)) ≡ reference_at s (tile_directory_at s) i
    unfolding reference_at
    reads i h = read_is (eqb (standard_references s x) 1) (reference_size s) i size_is (in_record i h) ∙ ap (λ (a : ℕ). reference_at s a i) (sym tiles_at_lem)

    tiles_fit : TilesFit l x
    tiles_fit =
        rw (long_same, width_same, count_same)
        (record {
          inside = same.in_first;
          least = omega (arith, is.long);
          width = wide;
          ends = omega (arith, placed (reference_count s) (omega arith), ends, mul_comm (reference_count s) (reference_size s));
        })

    tiles_put_lem : (named : ℕ → ℕ) → tiles_put (checksum_enabled s) named l x ≡ tiles_renamed s named (piece_at s x)
    unfolding tiles_put tiles_renamed fields_put field_in field_then piece_at
    tiles_put_lem named =
        rw (long_same, width_same, count_same, part_there)
        (ap (resealed (checksum_enabled s))
        (each_alike _ _ _ _ (reference_count s) (part s x n) (λ i h. omega (arith, placed i (omega arith)))
        (λ i h. ap (λ (c : ℕ). reference_bytes (reference_size s) (named c)) (ap (reference_read (reference_size s) l) (placed i (omega arith)) ∙ reads i h))))

  -- the metadata directory

  module _ (e : type_at s x ≡ 4) where
    right4 : metadata_directory_right s ≡ true
    right4 = o.sound.metadata_directory_lem

    content_is : content_at x ≡ metadata_reference s
    unfolding metadata_directory_right
    content_is = of_kind 4 (metadata_reference s) (means _ right4).1.0 e

    metadata_at_lem : metadata_at s ≡ x
    unfolding metadata_at
    metadata_at_lem = omega (arith, content_is)

    some : metadata_reference s ≡ 0 → ⊥
    some z = omega (arith, content_is)

    counted : u32_at l (x + 8) ≡ metadata_count s
    unfolding metadata_count entry_count
    counted = rw (ne_eqb (metadata_reference s) 0 some) (number_there 4 8 (omega (arith, is.long)) ∙ ap (u32_at s) content_is)

    last : metadata_entry_at s (metadata_count s) ≤ x + (n - 4)
    unfolding metadata_directory_right metadata_fits padded
    last =
        let a = means _ (rw (ne_eqb (metadata_reference s) 0 some) at (means _ right4).1.1.0) in
        let b = (means _ a.1.0).0 in
        omega (arith, ap (record_limit s) metadata_at_lem, limit_is)

    next_same : (at : ℕ) → x + 12 ≤ at → metadata_entry_end s at ≤ x + (n - 4) → metadata_entry_end s at ≡ field_end l true 8 at
    unfolding metadata_entry_end field_end field_size metadata_entry_size string_size
    next_same at h g =
        let y : u16_at l (at + 8) ≡ u16_at s (at + 8) = number_same same 2 (at + 8) (omega arith) (omega (arith, is.long)) in
        omega arith

    entry_mono : (i : ℕ) → i ≤ metadata_count s → metadata_entry_at s i ≤ metadata_entry_at s (metadata_count s)
    unfolding metadata_entry_at
    entry_mono i h =
        let z : i + (metadata_count s - i) ≡ metadata_count s = omega arith in
        rw z at (advance_mono (metadata_entry_end s) (record_limit s (metadata_at s)) (end_grows s) i (metadata_count s - i) (metadata_at s + 12))

    entry_is : (i : ℕ) → metadata_entry_at s i ≡ advance (metadata_entry_end s) (x + (n - 4)) i (x + 12)
    unfolding metadata_entry_at
    entry_is i = rw (metadata_at_lem, limit_is)

    entry_same : (i : ℕ) → i ≤ metadata_count s → field_at l x n 12 true 8 i ≡ metadata_entry_at s i
    unfolding field_at
    entry_same i h =
        let b : advance (metadata_entry_end s) (x + (n - 4)) i (x + 12) ≤ x + (n - 4) = omega (arith, entry_is i, entry_mono i h, last) in
        sym (entry_is i ∙ advance_same (metadata_entry_end s) (field_end l true 8) (x + (n - 4)) (x + 12) (end_grows s) next_same i (x + 12) (omega arith) b)

    entry_behind : (i : ℕ) → x + 12 ≤ metadata_entry_at s i
    entry_behind i = omega (arith, first_behind s i, metadata_at_lem)

    entries_fit : FieldsFit l x n 12 true 8 (metadata_count s)
    entries_fit =
        record {
          inside = same.in_first;
          least = omega (arith, is.long);
          width = inl refl;
          ends = omega (arith, entry_same (metadata_count s) (omega arith), last);
        }

    next_inside : (i : ℕ) → i < metadata_count s → metadata_entry_at s i + 8 ≤ x + (n - 4)
    next_inside i h =
        omega
        (arith, entry_same i (omega arith), at_next entries_fit i (omega arith), at_inside entries_fit (i + 1) (omega arith), size_least l true 8 (field_at l x n 12 true 8 i) (inl refl))

    positions : (i : ℕ) → i < metadata_count s → reference_read 8 l (metadata_entry_at s i) ≡ u64_at s (metadata_entry_at s i)
    unfolding reference_read
    positions i h = number_same same 8 (metadata_entry_at s i) (omega (arith, entry_behind i)) (omega (arith, next_inside i h))

    metadata_fit : MetadataFit l x
    metadata_fit = rw (long_same, counted) entries_fit

    metadata_put_lem : (named : ℕ → ℕ) → metadata_put (checksum_enabled s) named l x ≡ metadata_renamed s named (piece_at s x)
    unfolding metadata_put metadata_renamed fields_put field_in field_then piece_at reference_bytes
    metadata_put_lem named =
        rw (long_same, counted, part_there)
        (ap (resealed (checksum_enabled s))
        (each_alike _ _ _ _ (metadata_count s) (part s x n) (λ i h. omega (arith, entry_same i (omega arith), metadata_at_lem))
        (λ i h. ap (λ (c : ℕ). bytes_of 8 (named c)) (ap (reference_read 8 l) (entry_same i (omega arith)) ∙ positions i h))))

  -- any of them

  pub kept_fits : KeptFits l x
  kept_fits =
      record {
        inside = rw long_same same.in_first;
        tiles = λ e. tiles_fit (sym type_same ∙ e);
        metadata = λ e. metadata_fit (sym type_same ∙ e);
      }

  pub kept_is : (named : ℕ → ℕ) → kept_put (checksum_enabled s) named l x ≡ renamed_in s named (piece_at s x)
  unfolding kept_put renamed_in
  kept_is named = go (eqb (type_at s x) 5) refl (eqb (type_at s x) 4) refl
    where
      go :
          (a : Bool) → eqb (type_at s x) 5 ≡ a → (b : Bool) → eqb (type_at s x) 4 ≡ b →
          kept_put (checksum_enabled s) named l x ≡ renamed_in s named (piece_at s x)
      go true i b j = rw (type_same, piece_type s x ok, i) (tiles_put_lem (eqb-true _ _ i) named)
      go false i true j = rw (type_same, piece_type s x ok, i, j) (metadata_put_lem (eqb-true _ _ j) named)
      go false i false j = rw (type_same, piece_type s x ok, i, j) piece_same
