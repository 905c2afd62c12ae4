-- The tile directory of an opened page, kept or new, is right and full. Assumes nothing.
use Prim.Native.Nat.{ℕ, ◌*◌, ◌/◌, ◌%◌, ◌<◌}
use mathlib.Core.Path.{◌≡◌, refl, sym, ap, subst, ◌∙◌}
use mathlib.Core.List.{List, [], ◌∷◌, ◌++◌, map, Memᴰ}
use mathlib.Core.Bool.{Bool, true, false}
use native.Mathlib.Omega.{arith}
use lib.ListN.{length}
use lib.Dec.{eqb}
use borrow.Author.Tests.{eqb-true, eqb-false}
use Rattle.wire.proofs.TestLaws.{means, yes}
use Rattle.wire.proofs.PlaceLaws.{Placed}
use Rattle.header.specs.Fields.{checksum_enabled, tile_directory_reference}
use Rattle.record.specs.Record.{content_at}
use Rattle.record.specs.Chain.{header_end, records, records_of, joined}
use Rattle.geometry.specs.Tiles.{tile_count}
use Rattle.bodies.specs.TileRecord.{tile_index}
use Rattle.bodies.specs.TileDirectory.{tile_reference}
use Rattle.check_header.specs.HeaderRecord.{length_right}
use Rattle.check_header.proofs.Judged.{header_lawful}
use Rattle.check_directory.specs.TileRules.{tile_directory_right}
use Rattle.check_directory.specs.Correspondence.{OneToOne}
use Rattle.check_directory.proofs.MemberLaws.{one_of_type}
use Rattle.check_lists.proofs.FirstLaws.{record_placed}
use Rattle.page_check.proofs.GivenLaws.{sound_range, sound_one}
use Rattle.pieces.specs.Pieces.{pieces}
use Rattle.pieces.specs.Standing.{standing, place_of}
use Rattle.alone.proofs.TileLaws.{index_same}
use Rattle.alone.proofs.StandLaws.{stands, records_are, same_at, places_same}
use Rattle.writable.specs.Writable.{directory_full}
use Rattle.correct.specs.Opening.{compact_of, full_directory, opened_front}
use Rattle.page_laws.proofs.ListedLaws.{judged_across, judged_down, judged_count, SameListed, listed_same, only_same}
use Rattle.page_laws.proofs.TilesKeptLaws.{tiles_stand_kept}
use Rattle.written_rules.proofs.FullDirectoryLaws.{FullAt, full_reference, full_form, full_rectangle, full_padded, full_full}
use Rattle.opened_pages.specs.OpenedPages.{Opens}
use Rattle.opened_pages.proofs.FrontLaws.{sound, parted, f, opened_front_lem, opened_judged, opened_tiles_kept, page_refers, page_judged}
use Rattle.opened_pages.proofs.PieceLaws.{new_short, qs, page_well, page_stays, page_kept, page_new}

-- what a compact reference of a page gives

module _ {s : List ℕ} {t : ℕ} (o : Opens s t) where
  one : OneToOne s
  one = sound_one s (records s) (sound o)

  -- tile records start at multiples of 8
  record Start (x : ℕ) : Type 0 where
    eights : x % 8 ≡ 0
    inside : x < 16777216

  start_of : {x : ℕ} → Memᴰ x (records_of s 2) → Start x
  unfolding length_right header_end
  start_of m =
      let p = record_placed s 2 m in
      let h = (means _ (header_lawful s (length s) (sound o).headed.header)).0 in
      let r = sound_range s (records s) (sound o) in
      record { eights = omega (arith, p.eights, p.behind); inside = omega (arith, p.inside, r.file) }

  compact_is : (i : ℕ) → i < tile_count s → (compact_of s i * 8 ≡ tile_reference s i) × (compact_of s i < 4294967296)
  unfolding compact_of
  compact_is i h = go (eqb (tile_reference s i) 0) refl
    where
      go : (b : Bool) → eqb (tile_reference s i) 0 ≡ b → (tile_reference s i / 8 * 8 ≡ tile_reference s i) × (tile_reference s i / 8 < 4294967296)
      go true e = let z : tile_reference s i ≡ 0 = eqb-true _ _ e in (omega arith, omega arith)
      go false e =
          let r = one.given i h (eqb-false _ _ e) in
          let b = start_of r.among in
          let c = r.content in
          (omega (arith, b.eights), omega (arith, b.inside))

  abbrev pub u : List ℕ
  u = opened_front s t ++ joined (qs o)

  abbrev Right : Type 0
  Right = (tile_directory_right u ≡ true) × (directory_full u ≡ true)

  -- one that was full stays
  kept_right : directory_full s ≡ true → Right
  kept_right e =
      let p = parted o in
      tiles_stand_kept (f o) (pieces s) (opened_front s t) (qs o)
      (record {
        first = p.front;
        second = opened_front_lem o;
        judged = opened_judged o;
        reference = sym (opened_tiles_kept o e);
        formed = p.formed;
        formed_too = page_well o;
        records = page_stays o 2 (λ z. omega arith) (λ z. omega arith) (λ z. omega arith);
        directories = page_kept o e;
      })
      (ap tile_directory_right (sym p.whole) ∙ (sound o).tile_directory) (ap directory_full (sym p.whole) ∙ e)

  -- the new one

  tiles_are : records_of s 2 ≡ records_of u 2
  tiles_are =
      let p = parted o in
      ap (λ (l : List ℕ). records_of l 2) p.whole
      ∙ places_same p.front (opened_front_lem o) (pieces s) (qs o) p.formed (page_well o) 2 (page_stays o 2 (λ z. omega arith) (λ z. omega arith) (λ z. omega arith))

  index_kept : (x : ℕ) → Memᴰ x (records_of s 2) → tile_index s x ≡ tile_index u x
  index_kept x m =
      let p = parted o in
      let n = subst (λ (l : List ℕ). Memᴰ x (records_of l 2)) p.whole m in
      ap (λ (l : List ℕ). tile_index l x) p.whole
      ∙ index_same
      (same_at p.front (opened_front_lem o) (pieces s) (qs o) p.formed (page_well o) 2 (page_stays o 2 (λ z. omega arith) (λ z. omega arith) (λ z. omega arith)) x n)

  module _ (e : directory_full s ≡ false) where
    new_placed : Placed u (length s) (full_directory s)
    new_placed =
        let m : Memᴰ (length s, full_directory s) (standing 5 (length (opened_front s t)) (qs o)) = rw (page_new o e) (mathlib.Core.List.Memᴰ.head refl) in
        (stands u (opened_front s t) (qs o) refl (page_well o) 5 m).placed

    new_refers : tile_directory_reference u ≡ content_at (length s)
    new_refers = page_refers o (joined (qs o)) e

    new_only : records_of u 5 ≡ length s ∷ []
    new_only = records_are (opened_front s t) (opened_front_lem o) (qs o) (page_well o) 5 ∙ ap (map place_of) (page_new o e)

    new_full : FullAt s (compact_of s) (checksum_enabled s) u (length s)
    unfolding full_directory
    new_full =
        record {
          placed = new_placed;
          refers = new_refers;
          sides = (sound_range s (records s) (sound o)).sides;
          down = sym (judged_down s u (page_judged o (joined (qs o))));
          across = sym (judged_across s u (page_judged o (joined (qs o))));
          small = λ j h. (compact_is j h).1;
          short = new_short o e;
        }

    new_listed : SameListed s u
    new_listed =
        record {
          count = judged_count s u (page_judged o (joined (qs o)));
          records = tiles_are;
          index = index_kept;
          reference = λ i h. sym (full_reference new_full i h ∙ (compact_is i h).0);
        }

    new_right : Right
    unfolding tile_directory_right
    new_right =
        let r = one_of_type u 5 (tile_directory_reference u) (length s) new_only new_refers in (
          sym (yes _ (r.0, (r.1, (full_form new_full, (full_rectangle new_full, (full_padded new_full, (listed_same s u new_listed one, (only_same s u new_listed one, tt)))))))),
          full_full new_full,
        )

  pub directory_right : Right
  directory_right = go (directory_full s) refl
    where
      go : (b : Bool) → directory_full s ≡ b → Right
      go true e = kept_right e
      go false e = new_right e
