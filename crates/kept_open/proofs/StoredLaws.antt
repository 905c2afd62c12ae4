-- A tile stored in a record of its own: the page stays open for writing, and its tiles are those of the map. Assumes nothing.
use Prim.Native.Nat.{ℕ, ◌≤◌}
use mathlib.Core.Path.{◌≡◌, refl, sym, ap, ap₂, ◌∙◌}
use mathlib.Core.List.{List, [], ◌∷◌, ◌++◌}
use mathlib.Core.Bool.{Bool, true, false}
use lib.ListN.{length}
use lib.Dec.{eqb}
use Rattle.wire.specs.Pick.{pick}
use Rattle.wire.proofs.TestLaws.{not_both}
use Rattle.record.specs.Record.{content_at}
use Rattle.record.specs.Chain.{joined}
use Rattle.header.specs.Fields.{checksum_enabled, element_count}
use Rattle.bodies.specs.TileRecord.{tile_index}
use Rattle.tile_routes.specs.Ways.{carries}
use Rattle.written_records.specs.Tile.{tile_record}
use Rattle.pieces.specs.Pieces.{pieces, freeing}
use Rattle.pieces.specs.Edits.{place_for, with_reference}
use Rattle.pieces.specs.Standing.{AllOf, standing, without, Inserted}
use Rattle.alone.specs.Edited.{placed_each, edited, New}
use Rattle.writable.proofs.PartLaws.{front_begins}
use Rattle.correct.specs.Storing.{stored_over, freed_of, stored_at, newly_stored, stored_pieces, stored_page, plain_contents}
use Rattle.page_laws.specs.Tiles.{tiles_of, of_tile}
use Rattle.page_laws.specs.TileMap.{contents_alone, held_in}
use Rattle.page_laws.proofs.MapLaws.{held_without, of_without, of_inserted, none_without, held_inserted}
use Rattle.page_laws.proofs.KeptLaws.{kept_places, kept_follows}
use Rattle.kept_open.specs.KeptOpen.{Stores, StoredKeeps}
use Rattle.kept_open.proofs.EntryLaws.{entered_new}
use Rattle.kept_open.proofs.AgainLaws.{front_of, parted, tiles_first}
use Rattle.kept_open.proofs.EditLaws.{kept, edit_open, edit_kept, edit_tiles}
use Rattle.kept_open.proofs.NewLaws.{new_length, new_index, new_tile, new_contents}

module _ (s : List ℕ) (i : ℕ) (c : List ℕ) (h : Stores s i c) (over : stored_over s i ≡ false) where
  abbrev v : List ℕ
  v = tile_record s i c

  abbrev content : ℕ
  content = content_at (stored_at s i)

  new : AllOf (New (front_of s)) (v ∷ [])
  new = (new_tile s h.open_page_lem i c h.below h.cells h.long, tt)

  abbrev qs : List (List ℕ)
  qs = edited (checksum_enabled s) (λ r. carries r i 0) (v ∷ []) (with_reference s i content) (pieces s)

  page_is : stored_page s i c ≡ front_of s ++ joined qs
  unfolding stored_page stored_pieces newly_stored freed_of edited placed_each
  page_is = rw over

  place_is : place_for (length (front_of s)) (length v) (freeing (checksum_enabled s) (λ r. carries r i 0) (pieces s)) ≡ stored_at s i
  unfolding stored_at freed_of
  place_is = rw ((parted s h.open_page_lem).ends, new_length s h.open_page_lem i c h.below h.cells h.long)

  inserted : Inserted (without (λ r. carries r i 0) (standing 2 (length (front_of s)) (pieces s))) (stored_at s i, v) (standing 2 (length (front_of s)) qs)
  inserted = let k = (kept s h.bytes h.open_page_lem i content (v ∷ []) new).tiles in rw (k.1, ← place_is) k.0

  index : tile_index v 0 ≡ i
  index = new_index s h.open_page_lem i c h.below h.cells h.long

  -- the new one is the only one with its index
  held_tiles :
      (j : ℕ) →
      held_in (element_count (front_of s)) j (standing 2 (length (front_of s)) qs)
      ≡ pick (eqb j i) (contents_alone (element_count (front_of s)) v) (held_in (element_count (front_of s)) j (standing 2 (length (front_of s)) (pieces s)))
  held_tiles j =
      (rw index at (held_inserted (element_count (front_of s)) j (stored_at s i, v) inserted (rw index (none_without i (length (front_of s)) (pieces s)))))
      ∙ ap (λ (a : List (List ℕ)). pick (eqb j i) (contents_alone (element_count (front_of s)) v) a) (held_without (element_count (front_of s)) i j (length (front_of s)) (pieces s))
      ∙ go (eqb j i) (contents_alone (element_count (front_of s)) v) (held_in (element_count (front_of s)) j (standing 2 (length (front_of s)) (pieces s)))
    where
      go : (b : Bool) (x y : List (List ℕ)) → pick b x (pick b [] y) ≡ pick b x y
      go true x y = refl
      go false x y = refl

  held : (j : ℕ) → held_in (element_count (front_of s)) j (standing 2 (length (front_of s)) qs) ≡ pick (eqb j i) (plain_contents s c) (tiles_of s j)
  held j =
      let e = (parted s h.open_page_lem).header.count in
      held_tiles j
      ∙ ap₂ (λ (a b : List (List ℕ)). pick (eqb j i) a b)
      (ap (λ (n : ℕ). contents_alone n v) (sym e) ∙ new_contents s h.open_page_lem i c h.below h.cells h.long) (sym (tiles_first s h.open_page_lem j))

  others : (j : ℕ) → (j ≡ i → ⊥) → of_tile j (standing 2 (length (front_of s)) qs) ≡ of_tile j (standing 2 (length (front_of s)) (pieces s))
  others j z = of_inserted j inserted (λ y. z (sym y ∙ index)) ∙ of_without i j z (standing 2 (length (front_of s)) (pieces s))

  pub stored_new : StoredKeeps s i c
  stored_new =
      let l : length (front_of s ++ joined qs) ≤ 16777216 = rw page_is at h.room in
      record {
        open_page_lem =
            rw page_is
            (edit_open s h.bytes h.open_page_lem i content (v ∷ []) new h.below l
            (entered_new (standing 2 (length (front_of s)) (pieces s)) (standing 2 (length (front_of s)) qs) i (stored_at s i) v inserted index));
        follows =
            rw page_is
            (kept_follows (edit_kept s h.bytes h.open_page_lem i content (v ∷ []) new others) (λ j. edit_tiles s h.bytes h.open_page_lem i content (v ∷ []) new j ∙ held j));
        places = rw page_is (kept_places (edit_kept s h.bytes h.open_page_lem i content (v ∷ []) new others));
        front = rw page_is (front_begins s (joined qs) h.open_page_lem.sound);
        over_long = λ e. not_both e over;
        over_beside = λ e. not_both e over;
      }
