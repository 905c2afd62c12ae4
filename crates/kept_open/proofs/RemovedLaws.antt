-- A tile removed: the page stays open for writing, and its tiles are those of the map. Assumes nothing.
use Rattle.std.specs.Prelude.{None, Option, Some}
use Prim.Native.Nat.{ℕ, ◌+◌, ◌≤◌, ◌<◌}
use mathlib.Core.Path.{◌≡◌, refl, sym, ap, ◌∙◌}
use mathlib.Core.List.{List, [], ◌++◌}
use mathlib.Core.Bool.{Bool, true, false}
use native.Mathlib.Omega.{arith}
use lib.ListN.{length, length-append}
use lib.Dec.{eqb}
use borrow.Author.Tests.{eqb-true}
use Rattle.wire.specs.Pick.{pick}
use Rattle.wire.specs.Bytes.{Bytes}
use Rattle.wire.proofs.TestLaws.{not_both}
use Rattle.record.specs.Chain.{records, joined}
use Rattle.header.specs.Fields.{checksum_enabled, element_count}
use Rattle.geometry.specs.Tiles.{tile_count}
use Rattle.page_check.proofs.GivenLaws.{sound_range}
use Rattle.tile_routes.specs.Ways.{carries}
use Rattle.pieces.specs.Pieces.{pieces}
use Rattle.pieces.specs.Edits.{with_reference}
use Rattle.pieces.specs.Standing.{standing}
use Rattle.pieces.proofs.FreeingLaws.{freeing_length}
use Rattle.alone.specs.Edited.{placed_each, edited}
use Rattle.writable.specs.Writable.{Open}
use Rattle.writable.proofs.PartLaws.{front_begins}
use Rattle.correct.specs.Storing.{tile_at, freed_of}
use Rattle.correct.specs.Removing.{is_found, is_there, removed_pieces, removed_page}
use Rattle.correct.proofs.ReferredLaws.{referred_is}
use Rattle.page_laws.specs.Tiles.{contents_of, tiles_of, of_tile}
use Rattle.page_laws.specs.TileMap.{held_in}
use Rattle.page_laws.proofs.TileMapLaws.{contents_some}
use Rattle.page_laws.proofs.MapLaws.{held_without, of_without}
use Rattle.page_laws.proofs.KeptLaws.{KeptBy, kept_places, kept_follows}
use Rattle.kept_open.specs.KeptOpen.{RemovedKeeps, RemovedOpen}
use Rattle.kept_open.proofs.EntryLaws.{entered_none}
use Rattle.kept_open.proofs.AgainLaws.{front_of, parted, tiles_first, kept_again, tiles_again}
use Rattle.kept_open.proofs.EditLaws.{kept, edit_open, edit_kept, edit_tiles}

module _ (s : List ℕ) (i : ℕ) (b : Bytes s) (o : Open s) (below : i < tile_count s) where
  -- it has none: nothing changes

  same_is : is_there s i ≡ false → removed_page s i ≡ front_of s ++ joined (pieces s)
  unfolding removed_page removed_pieces
  same_is e = rw e

  found_is : is_there s i ≡ is_found (tile_at s i)
  unfolding is_there
  found_is = ap is_found (referred_is s o.sound i below)

  nothing_there : tiles_of s i ≡ [] → removed_page s i ≡ s
  unfolding tiles_of
  nothing_there h = go (tile_at s i) refl h
    where
      go : (f : Option ℕ) → tile_at s i ≡ f → contents_of s f ≡ [] → removed_page s i ≡ s
      go None e z = same_is (found_is ∙ ap is_found e) ∙ sym (parted s o).whole
      go (Some x) e z = absurd (contents_some s x (sound_range s (records s) o.sound).elements.0 z)

  -- it has a record

  abbrev qs : List (List ℕ)
  qs = edited (checksum_enabled s) (λ r. carries r i 0) [] (with_reference s i 0) (pieces s)

  page_is : is_there s i ≡ true → removed_page s i ≡ front_of s ++ joined qs
  unfolding removed_page removed_pieces freed_of edited placed_each
  page_is e = rw e

  long_same : length (front_of s ++ joined qs) ≡ length s
  unfolding placed_each
  long_same =
      let p = parted s o in
      let l : length (joined qs) ≡ length (joined (pieces s)) = (kept s b o i 0 [] tt).long ∙ freeing_length (checksum_enabled s) (λ r. carries r i 0) (pieces s) p.formed in
      let m : length s ≡ length (front_of s) + length (joined (pieces s)) = ap length p.whole ∙ length-append (front_of s) (joined (pieces s)) in
      let n : length (front_of s ++ joined qs) ≡ length (front_of s) + length (joined qs) = length-append (front_of s) (joined qs) in
      omega arith

  room : length (front_of s ++ joined qs) ≤ 16777216
  room = omega (arith, long_same, (sound_range s (records s) o.sound).file)

  held : (j : ℕ) → held_in (element_count (front_of s)) j (standing 2 (length (front_of s)) qs) ≡ pick (eqb j i) [] (tiles_of s j)
  held j =
      ap (held_in (element_count (front_of s)) j) (kept s b o i 0 [] tt).tiles
      ∙ held_without (element_count (front_of s)) i j (length (front_of s)) (pieces s)
      ∙ ap (λ (a : List (List ℕ)). pick (eqb j i) [] a) (sym (tiles_first s o j))

  others : KeptBy s (front_of s) (front_of s) qs (λ j. eqb j i)
  others = edit_kept s b o i 0 [] tt (λ j z. ap (of_tile j) (kept s b o i 0 [] tt).tiles ∙ of_without i j z (standing 2 (length (front_of s)) (pieces s)))

  removed : is_there s i ≡ true → RemovedKeeps s i
  removed e =
      record {
        open_page_lem =
            rw (page_is e)
            (edit_open s b o i 0 [] tt below room
            (entered_none (standing 2 (length (front_of s)) (pieces s)) (standing 2 (length (front_of s)) qs) i (kept s b o i 0 [] tt).tiles));
        follows = rw (page_is e) (kept_follows others (λ j. edit_tiles s b o i 0 [] tt j ∙ held j));
        places = rw (page_is e) (kept_places others);
        front = rw (page_is e) (front_begins s (joined qs) o.sound);
        long = rw (page_is e) long_same;
        absent = nothing_there;
      }

  -- it has none

  nothing_held : is_there s i ≡ false → tiles_of s i ≡ []
  unfolding tiles_of
  nothing_held e = go (tile_at s i) (sym found_is ∙ e)
    where
      go : (f : Option ℕ) → is_found f ≡ false → contents_of s f ≡ []
      go None z = refl
      go (Some x) z = not_both refl z

  held_same : is_there s i ≡ false → (j : ℕ) → tiles_of s j ≡ pick (eqb j i) [] (tiles_of s j)
  held_same e j = go (eqb j i) refl
    where
      go : (c : Bool) → eqb j i ≡ c → tiles_of s j ≡ pick c [] (tiles_of s j)
      go true z = let y : j ≡ i = eqb-true _ _ z in ap (tiles_of s) y ∙ nothing_held e
      go false z = refl

  all : KeptBy s (front_of s) (front_of s) (pieces s) (λ j. eqb j i)
  all = kept_again s o (pieces s) (parted s o).formed refl refl (λ j n. refl)

  absent : is_there s i ≡ false → RemovedKeeps s i
  absent e =
      let p = parted s o in
      record {
        open_page_lem = rw (same_is e, ← p.whole) o;
        follows = rw (same_is e) (kept_follows all (λ j. tiles_again s o (pieces s) p.formed p.bodies j ∙ sym (tiles_first s o j) ∙ held_same e j));
        places = rw (same_is e) (kept_places all);
        front = rw (same_is e) (front_begins s (joined (pieces s)) o.sound);
        long = ap length (same_is e ∙ sym p.whole);
        absent = nothing_there;
      }

  removed_keeps : RemovedKeeps s i
  removed_keeps = go (is_there s i) refl
    where
      go : (c : Bool) → is_there s i ≡ c → RemovedKeeps s i
      go true e = removed e
      go false e = absent e

pub removed_open : RemovedOpen
removed_open s i b o below = removed_keeps s i b o below
