-- A file-space directory that lists the free records as they are is right: stage 9. Assumes nothing.
use Prim.Native.Nat.{ℕ, ◌+◌, ◌*◌, ◌-◌, ◌≤◌}
use mathlib.Core.Path.{◌≡◌, refl, sym, ap, ◌∙◌}
use mathlib.Core.List.{List, [], ◌∷◌, map, Memᴰ}
use mathlib.Core.Bool.{true}
use native.Mathlib.Omega.{arith}
use lib.ListN.{length}
use borrow.Author.Tests.{ne_eqb}
use Rattle.wire.specs.Lists.{below}
use Rattle.wire.proofs.TestLaws.{yes}
use Rattle.wire.proofs.PlaceLaws.{Placed, placed_inner, placed_inside, placed_at}
use Rattle.record.specs.Record.{length_at, content_at, record_limit, padded}
use Rattle.record.specs.Chain.{records_of}
use Rattle.header.specs.Fields.{checksum_enabled, file_space_reference}
use Rattle.bodies.specs.ListDirectories.{entry_count, file_space_at, free_count, free_entry_at}
use Rattle.check_directory.proofs.MemberLaws.{one_of_type}
use Rattle.check_directory.proofs.SearchLaws.{zero_or}
use Rattle.check_lists.specs.FileSpace.{free_fits, file_space_right}
use Rattle.check_lists.specs.Rearranged.{Rearranged, free_entry, free_entries, free_record, free_records, FreeRearranged}
use Rattle.check_lists.proofs.SpaceLaws.{fits_is}
use Rattle.check_lists.proofs.RearrangedLaws.{rearranged_free}
use Rattle.written_records.specs.Pieces.{record_length}
use Rattle.written_records.proofs.PieceLaws.{least_holds, record_length_lem, record_body, placed_stated}
use Rattle.correct.specs.Closing.{free_list, file_space_record}
use Rattle.page_laws.proofs.TileMapLaws.{below_map}
use Rattle.closed_pages.proofs.FreeListLaws.{map_members, list_length, Holds, entry_from, entries_read_lem, count_read, entries_there}

-- a list is a rearrangement of itself
rearranged_self : {A : Type 0} (l : List A) → Rearranged l l
unfolding Rearranged
rearranged_self [] = refl
rearranged_self (x ∷ l) = ([], l, refl, rearranged_self l)

-- the directory of the free records of s stands in u at n, the only one there, and the free records of s are those of u
pub record Listing (s u : List ℕ) (n : ℕ) : Type 0 where
  pub there : Placed u n (file_space_record s)
  pub reference : file_space_reference u ≡ content_at n
  pub only : records_of u 3 ≡ n ∷ []
  pub records : records_of s 0 ≡ records_of u 0
  pub lengths : (x : ℕ) → Memᴰ x (records_of s 0) → length_at s x ≡ length_at u x
  pub small : (x : ℕ) → Memᴰ x (records_of s 0) → Holds s x
  pub some : 1 ≤ length (records_of s 0)
  pub room : length (file_space_record s) ≤ 2147483647

module _ {s u : List ℕ} {n : ℕ} (l : Listing s u n) where
  abbrev count : ℕ
  count = length (records_of s 0)

  long : length (file_space_record s) ≡ record_length (4 + 12 * count)
  unfolding file_space_record
  long = record_length_lem (checksum_enabled s) 3 (free_list s) ∙ ap record_length (list_length s)

  -- the bytes hold the entries and the checksum, and are no more than they have to be
  holds : (12 * count + 16 ≤ length (file_space_record s)) × (length (file_space_record s) ≤ 12 * count + 23)
  unfolding record_length
  holds = let a = least_holds (8 + (4 + 12 * count)) in let b = long in (omega (arith, a.0), omega (arith, a.1.0))

  list_there : Placed u (n + 8) (free_list s)
  unfolding file_space_record
  list_there = placed_inner l.there (record_body (checksum_enabled s) 3 (free_list s))

  stated : length_at u n ≡ length (file_space_record s)
  unfolding file_space_record
  stated = placed_stated (checksum_enabled s) 3 (free_list s) l.there l.room

  not_zero : file_space_reference u ≡ 0 → ⊥
  not_zero z = omega (arith, l.reference)

  at_is : file_space_at u ≡ n
  unfolding file_space_at
  at_is = omega (arith, l.reference)

  count_is : free_count u ≡ count
  unfolding free_count entry_count
  count_is =
      let r = l.room in
      rw (ne_eqb (file_space_reference u) 0 not_zero, l.reference) (count_read s u (n + 8) list_there (omega (arith, holds.0)))

  limit_is : record_limit u n ≡ n + (length (file_space_record s) - 4)
  unfolding record_limit
  limit_is = omega (arith, stated, placed_inside l.there, holds.0)

  fits : free_fits u ≡ true
  unfolding padded
  fits =
      let r = l.room in
      let a : true ≡ padded u n (n + 12 + count * 12) = rw limit_is (yes _ (omega (arith, holds.0), (omega (arith, holds.1), tt))) in
      sym (fits_is u (file_space_reference u) refl count not_zero (sym count_is) n true (sym at_is) l.some (omega (arith, holds.0)) a)

  says_same : (x : ℕ) → Memᴰ x (records_of s 0) → free_record s x ≡ free_record u x
  unfolding free_record
  says_same x m = rw (l.lengths x m)

  entries_are : free_entries u ≡ free_records u
  unfolding free_entries free_records free_entry free_entry_at
  entries_are =
      let z : n + 8 + 4 ≡ n + 12 = omega arith in
      ap (λ (m : ℕ). map (free_entry u) (below m)) count_is
      ∙ below_map count (free_entry u) (entry_from u (n + 12)) (λ k h. rw at_is)
      ∙ entries_read_lem s u (n + 12) (records_of s 0) (placed_at (entries_there s u (n + 8) list_there) z) l.small
      ∙ map_members (free_record s) (free_record u) (records_of s 0) says_same
      ∙ ap (map (free_record u)) l.records

  arranged : FreeRearranged u
  unfolding FreeRearranged
  arranged = rw entries_are (rearranged_self (free_records u))

  pub listing_right : file_space_right u ≡ true
  unfolding file_space_right
  listing_right =
      let a = one_of_type u 3 (file_space_reference u) n l.only l.reference in
      let b = rearranged_free u arranged in
      sym (yes _ (sym (zero_or u 3 (file_space_reference u) true not_zero (sym a.0)), (a.1, (fits, (b.0, (b.1, tt))))))
