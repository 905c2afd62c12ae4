-- The length that a page has behind a call, and what storing a tile is to do. Assumes nothing.
use Rattle.std.specs.Prelude.{None, Option, Some}
use Prim.Native.Nat.{ℕ, max, ◌+◌, ◌*◌, ◌≤◌, ◌<◌}
use mathlib.Core.Path.{◌≡◌, sym, ap, ◌∙◌}
use mathlib.Core.List.{List, [], ◌∷◌, append-nil}
use mathlib.Core.Bool.{Bool, true, false}
use native.Mathlib.Omega.{arith}
use lib.ListN.{length, length-append}
use Rattle.wire.specs.Bytes.{bytes_of}
use Rattle.wire.proofs.ByteLaws.{bytes_length, part_whole}
use Rattle.record.specs.Chain.{joined, records_of}
use Rattle.header.specs.Fields.{checksum_enabled}
use Rattle.geometry.specs.Tiles.{tile_count}
use Rattle.geometry.specs.Sizes.{least_length, plain_tile_length}
use Rattle.written_records.specs.Pieces.{record_length, record_of}
use Rattle.written_records.specs.Directory.{directory_of}
use Rattle.written_records.proofs.PieceLaws.{record_length_lem}
use Rattle.written_records.proofs.DirectoryLaws.{directory_of_length}
use Rattle.tile_sizes.specs.TileSizes.{length_of_tile}
use Rattle.writable.specs.Writable.{directory_full}
use Rattle.correct.specs.Opening.{compact_of, full_directory, opened_more, opened_length}
use Rattle.correct.specs.Storing.{stored_at, stored_length}
use Rattle.correct.specs.Closing.{free_entry_bytes, free_list, file_space_record, closed_more, closed_length}
use Rattle.correct.specs.Front.{workable}
use Rattle.correct.proofs.ListLaws.{entries_length, free_few}
use Rattle.edit_walks.specs.declared.Spot.{Spot}
use Rattle.edit_walks.specs.Walks.{spot_of, over_at}
use Rattle.edit_walks.proofs.StoredLaws.{free_no, free_yes}
use Rattle.calls.specs.Layouts.{plan_of}
use Rattle.calls.proofs.ReadLaws.{worked_of, tile_length_is, plain_small}
use Rattle.calls.proofs.StoreLaws.{over_at_lem, over_none, spot_is}

-- opened

least_is : (n m r : ℕ) → n ≡ 8 + m → r ≡ least_length n → r ≡ record_length m
unfolding record_length
least_is n m r e f = f ∙ ap least_length e

pub least_near : (n r : ℕ) → r ≡ least_length n → r ≤ n + 11
unfolding least_length
least_near n r e = omega arith

directory_long : (s : List ℕ) → length (joined (full_directory s ∷ [])) ≡ record_length (24 + 4 * tile_count s)
unfolding full_directory
directory_long s =
    let b = directory_of s (compact_of s) in
    ap length (append-nil (record_of (checksum_enabled s) 5 b)) ∙ record_length_lem (checksum_enabled s) 5 b ∙ ap record_length (directory_of_length s (compact_of s))

pub opened_full : (s : List ℕ) {b : Bool} → b ≡ directory_full s → b ≡ true → length s ≡ opened_length s
unfolding opened_length opened_more
opened_full s e f = rw (← e, f) (omega arith)

pub opened_more_lem : (s : List ℕ) {b : Bool} (n r : ℕ) → b ≡ directory_full s → b ≡ false → n ≡ tile_count s → r ≡ least_length (32 + 4 * n) → length s + r ≡ opened_length s
unfolding opened_length opened_more
opened_more_lem s n r e f g h =
    let a : r ≡ record_length (24 + 4 * tile_count s) = least_is (32 + 4 * n) (24 + 4 * tile_count s) r (omega arith) h in
    rw (← e, f) (omega (arith, directory_long s))

-- with a tile stored

pub plan_over : (s : List ℕ) (i x : ℕ) {t : Option ℕ} → t ≡ over_at s i → t ≡ Some x → record { over = t; spot = record { at = 0; room = 0 }; long = length s } ≡ plan_of s i
unfolding plan_of stored_length
plan_over s i x e f = rw ((over_at_lem s i (sym e ∙ f)).0, e)

module _
    (s : List ℕ) (i : ℕ) {t : Option ℕ} {long : ℕ} {spot : Spot} (k : workable s ≡ true) (e : t ≡ over_at s i) (f : t ≡ None) (g : long ≡ length_of_tile s)
    (h : spot ≡ spot_of s i long)
  where
    own : long ≡ plain_tile_length s
    own = tile_length_is s (worked_of s k) long g

    new_is : stored_length s i ≡ max (length s) (spot.at + long)
    unfolding stored_length
    new_is = let a : spot.at + long ≡ stored_at s i + plain_tile_length s = omega (arith, (spot_is s i own h).0, own) in rw (over_none s i (sym e ∙ f), a)

    plan_new : {m : ℕ} → m ≡ stored_length s i → record { over = t; spot = spot; long = m } ≡ plan_of s i
    unfolding plan_of
    plan_new {m} y = let z : spot ≡ spot_of s i (plain_tile_length s) = h ∙ ap (spot_of s i) own in rw (over_none s i (sym e ∙ f), e, z, y)

    pub plan_end : length s < spot.at + long → record { over = t; spot = spot; long = spot.at + long } ≡ plan_of s i
    plan_end z = plan_new (omega (arith, new_is))

    pub plan_within : spot.at + long ≤ length s → record { over = t; spot = spot; long = length s } ≡ plan_of s i
    plan_within z = plan_new (omega (arith, new_is))

    pub plan_near : spot.at ≤ 4294967311 + length s → spot.at + long ≤ 8589934592
    plan_near z = let w = worked_of s k in omega (arith, plain_small s w, own, w.file)

-- closed

pub closed_none : (s : List ℕ) (n : ℕ) → n ≡ length (records_of s 0) → n ≡ 0 → length s ≡ closed_length s
unfolding closed_length closed_more
closed_none s n e z = rw (← free_no s n e z) (omega arith)

list_length : (s : List ℕ) → length (free_list s) ≡ 4 + 12 * length (records_of s 0)
unfolding free_list
list_length s =
    let xs = records_of s 0 in
    length-append (bytes_of 4 (length xs)) (free_entry_bytes s xs) ∙ omega (arith, bytes_length 4 (length xs), entries_length s xs)

list_long : (s : List ℕ) → length (joined (file_space_record s ∷ [])) ≡ record_length (4 + 12 * length (records_of s 0))
unfolding file_space_record
list_long s =
    ap length (append-nil (record_of (checksum_enabled s) 3 (free_list s))) ∙ record_length_lem (checksum_enabled s) 3 (free_list s) ∙ ap record_length (list_length s)

pub closed_more_lem : (s : List ℕ) (n r : ℕ) → n ≡ length (records_of s 0) → (n ≡ 0 → ⊥) → r ≡ least_length (12 + 12 * n) → length s + r ≡ closed_length s
unfolding closed_length closed_more
closed_more_lem s n r e z h =
    let a : r ≡ record_length (4 + 12 * length (records_of s 0)) = least_is (12 + 12 * n) (4 + 12 * length (records_of s 0)) r (omega arith) h in
    rw (← free_yes s n e z) (omega (arith, list_long s))

pub closed_few : (s : List ℕ) (n : ℕ) → workable s ≡ true → n ≡ length (records_of s 0) → n ≤ 1048576
closed_few s n k e = omega (arith, free_few s (length s) n (sym (part_whole s)) e, (worked_of s k).file)

pub tiles_few : (s : List ℕ) (n : ℕ) → workable s ≡ true → n ≡ tile_count s → n ≤ 65536
tiles_few s n k e = omega (arith, (worked_of s k).tiles)
