-- What a page is and what an element of it is, in numbers. Assumes nothing.
use Rattle.std.specs.Prelude.{Ok, Err}
use Prim.Native.Nat.{ℕ, ◌+◌, min, ◌≤◌, ◌<◌}
use mathlib.Core.Path.{◌≡◌, sym, ap}
use mathlib.Core.List.{List}
use mathlib.Core.Bool.{true}
use mathlib.Core.Logic.{by_cases}
use native.Mathlib.Decide.{dec_le}
use native.Mathlib.Omega.{arith}
use lib.ListN.{length}
use borrow.Author.Tests.{le-leb, lt-leb}
use Rattle.wire.specs.Bytes.{part}
use Rattle.wire.proofs.TestLaws.{means, not_both}
use Rattle.wire.proofs.ByteLaws.{part_out, part_length}
use Rattle.answer.specs.declared.Refusal.TheVariants.{OutsideGrid}
use Rattle.record.specs.Chain.{header_end, records, records_of}
use Rattle.header.specs.declared.Element.{Element}
use Rattle.header.specs.Names.{identifier, longest_name}
use Rattle.header.specs.Fields.{grid_rows, grid_columns, tile_rows, tile_columns, element_count, time_modified, checksum_enabled}
use Rattle.header.specs.Element.{element, element_name, entries_read, unit_place, unit_length}
use Rattle.header.proofs.NameLaws.{identifier_empty, five_long}
use Rattle.header.proofs.SameLaws.{limit_is, unit_fits}
use Rattle.geometry.specs.Tiles.{tiles_down, tiles_across}
use Rattle.geometry.specs.Sizes.{tile_bytes, cap}
use Rattle.check_header.specs.HeaderRecord.{element_right, elements_right, header_right}
use Rattle.page_check.specs.Stages.{check}
use Rattle.page_check.proofs.AcceptedLaws.{accepted_obeys, accepted_sound}
use Rattle.page_check.proofs.GivenLaws.{obeys_range, sound_range}
use Rattle.store.specs.declared.description.Shape.{Shape}
use Rattle.store.specs.declared.description.PageNumbers.{PageNumbers}
use Rattle.store.specs.Description.{shape_of, numbers_of_page, numbers_of_element, specified_by, DescribedInFile}
use Rattle.store.proofs.LookupLaws.{right}

module _ (s : List ℕ) where
  -- what `shape_of` says of its answer
  abbrev Shaped : Shape → Type 0
  Shaped x =
      (x.rows ≡ grid_rows s) × ((x.columns ≡ grid_columns s) × ((x.tile_rows ≡ tile_rows s) × ((x.tile_columns ≡ tile_columns s) × (x.elements ≡ element_count s))))

  shape_is : (x : Shape) → Shaped x → x ≡ shape_of s
  shape_is x (a, (b, (c, (d, e)))) = rw (← a, ← b, ← c, ← d, ← e)

  -- on an accepted file the bytes of a tile are below the bound up to which they are counted
  pub numbers_are :
      (x : Shape) (down across bytes front tiles metadata time sums : ℕ) → check s ≡ Ok tt → Shaped x → down ≡ tiles_down s →
      across ≡ tiles_across s → bytes ≡ min (tile_bytes s) cap → front ≡ header_end s → tiles ≡ length (records_of s 2) →
      metadata ≡ length (records_of s 1) → time ≡ time_modified s → sums ≡ checksum_enabled s →
      ◌≡◌ {A = PageNumbers}
      (record {
        shape = x;
        tiles_down = down;
        tiles_across = across;
        tile_bytes = bytes;
        front = front;
        tile_records = tiles;
        metadata_records = metadata;
        time_modified = time;
        checksums = sums;
      })
      (numbers_of_page s)
  unfolding numbers_of_page
  numbers_are x down across bytes front tiles metadata time sums a h p q r t u v w z =
      let y : bytes ≡ tile_bytes s = omega (arith, (obeys_range s (records s) (accepted_obeys s a)).tile_size) in
      rw (shape_is x h, p, q, y, t, u, v, w, z)

  -- an element's, from the entry that is read

  module _ (e n : ℕ) (p : n ≡ element_count s) where
    pub element_lacks : n ≤ e → Err OutsideGrid ≡ specified_by s e
    unfolding specified_by
    element_lacks h = rw (lt-leb (e + 1) (element_count s) (omega arith))

    pub element_is :
        (x : Element) (place size : ℕ) → x ≡ element s e → place ≡ unit_place s e → size ≡ unit_length s e → e < n →
        Ok (record { kind = x.kind; fill = x.fill; name = x.name; name_length = x.name_length; unit = place; unit_length = size }) ≡ specified_by s e
    unfolding specified_by numbers_of_element
    element_is x place size q u v h = rw (le-leb (e + 1) (element_count s) (omega arith), q, u, v)

-- what lies in an accepted file

name_some : (m : ℕ) (l : List ℕ) → identifier m l ≡ true → 1 ≤ length l
name_some m l h = by_cases (dec_le 1 (length l)) (λ k. k) (λ k. not_both h (sym (identifier_empty m l (omega arith))))

name_within : (m : ℕ) (l : List ℕ) → identifier m l ≡ true → length l ≤ m
unfolding identifier
name_within m l h = by_cases (dec_le (length l) m) (λ k. k) (λ k. not_both (means _ h).0 (sym (five_long m l (omega arith))))

-- a part that has a byte lies whole in the file
some_inside : (s : List ℕ) (at n : ℕ) → 1 ≤ length (part s at n) → at + n ≤ length s
some_inside s at n h =
    by_cases (dec_le (at + n) (length s)) (λ k. k)
    (λ k. let z : length (part s at n) ≡ 0 = ap length (part_out s at n (omega arith)) in absurd (omega arith))

module _ (s : List ℕ) (a : check s ≡ Ok tt) (e : ℕ) (h : e < element_count s) where
  named : identifier longest_name (element_name s e) ≡ true
  unfolding element_right
  named = (means _ (right s a e h)).1.0

  name_inside : (element s e).name + (element s e).name_length ≤ length s
  unfolding element_name
  name_inside = some_inside s _ _ (name_some _ _ named)

  name_long : (1 ≤ (element s e).name_length) × ((element s e).name_length ≤ longest_name)
  unfolding element_name
  name_long =
      let z = part_length s (element s e).name (element s e).name_length name_inside in
      (omega (arith, z, name_some _ _ named), omega (arith, z, name_within _ _ named))

  unit_inside : unit_place s e + unit_length s e ≤ length s
  unfolding header_right elements_right
  unit_inside =
      let o = accepted_sound s a in
      let r = sound_range s (records s) o in
      let f = (means _ (means _ o.headed.header).1.1.1.0).1.0 in
      omega (arith, unit_fits s e (entries_read s) (omega (arith, r.all)) f, limit_is s r.header_inside, r.header_inside)

pub described_in_file : DescribedInFile
described_in_file s a =
    let r = obeys_range s (records s) (accepted_obeys s a) in
    record {
      front = r.header_inside;
      checksums = r.checksum_flag;
      kind = r.kinds;
      name = name_inside s a;
      name_length = name_long s a;
      unit = unit_inside s a;
    }
