-- An edit of a page that is open for writing: tile i freed, new tile records stored, its reference set. Assumes nothing.
use Prim.Native.Nat.{ℕ, ◌≤◌, ◌<◌}
use mathlib.Core.Path.{◌≡◌, sym, ap, ◌∙◌}
use mathlib.Core.List.{List, ◌++◌}
use native.Mathlib.Omega.{arith}
use lib.ListN.{length}
use lib.Dec.{eqb}
use borrow.Author.Tests.{eqb-false}
use Rattle.wire.specs.Bytes.{Bytes}
use Rattle.record.specs.Chain.{joined, WellFormed}
use Rattle.header.specs.Fields.{checksum_enabled, element_count}
use Rattle.geometry.specs.Tiles.{tile_count}
use Rattle.check_lists.specs.Metadata.{metadata_directory_right}
use Rattle.tile_routes.specs.Ways.{carries}
use Rattle.pieces.specs.Pieces.{pieces}
use Rattle.pieces.specs.Edits.{with_reference}
use Rattle.pieces.specs.Standing.{AllOf, standing}
use Rattle.alone.specs.Edited.{edited, New, Edit, Keeps}
use Rattle.alone.proofs.TouchLaws.{reference_touches}
use Rattle.alone.proofs.EditedLaws.{well_formed, edit_keeps}
use Rattle.writable.specs.Writable.{Open}
use Rattle.page_laws.specs.Tiles.{tiles_of, of_tile}
use Rattle.page_laws.specs.TileMap.{held_in}
use Rattle.page_laws.proofs.KeptLaws.{KeptBy}
use Rattle.kept_open.proofs.EntryLaws.{carried, Entered}
use Rattle.kept_open.proofs.AgainLaws.{front_of, parted, open_again, kept_again, tiles_again, directory_again}

module _ (s : List ℕ) (b : Bytes s) (o : Open s) (i content : ℕ) (vs : List (List ℕ)) (new : AllOf (New (front_of s)) vs) where
  abbrev pub after : List (List ℕ)
  after = edited (checksum_enabled s) (λ r. carries r i 0) vs (with_reference s i content) (pieces s)

  edit : Edit (front_of s) (pieces s) (checksum_enabled s) (λ r. carries r i 0) vs (with_reference s i content)
  edit =
      let p = parted s o in
      record {
        front = p.front;
        flagged = p.header.flag;
        pieces = p.each b;
        room = p.room;
        freed = λ r e. (carried r i e).0;
        new = new;
        touches = reference_touches (front_of s) p.front s p.header.flag i content;
      }

  pub kept : Keeps (front_of s) (pieces s) (checksum_enabled s) (λ r. carries r i 0) vs (with_reference s i content)
  kept = edit_keeps (front_of s) (pieces s) (checksum_enabled s) (λ r. carries r i 0) vs (with_reference s i content) edit

  well : WellFormed after
  well = well_formed after kept.pieces

  stays : (kind : ℕ) → (kind ≡ 0 → ⊥) → (kind ≡ 2 → ⊥) → (kind ≡ 5 → ⊥) → standing kind (length (front_of s)) (pieces s) ≡ standing kind (length (front_of s)) after
  stays kind x y z = kept.others kind x y z

  pub edit_open :
      i < tile_count s → length (front_of s ++ joined after) ≤ 16777216 →
      Entered (standing 2 (length (front_of s)) (pieces s)) (standing 2 (length (front_of s)) after) i content → Open (front_of s ++ joined after)
  edit_open below room n =
      let p = parted s o in
      let d = directory_again s o after well room i content below kept.directories n in
      open_again s o after
      (record {
        formed = well;
        room = room;
        checksums = kept.checksums p.checksums;
        bodies = kept.bodies p.bodies;
        metadata = sym (kept.metadata p.bodies) ∙ ap metadata_directory_right (sym p.whole) ∙ o.sound.metadata_directory_lem;
        tiles = d.0;
        full = d.1;
        spaceless = stays 3 (λ e. omega arith) (λ e. omega arith) (λ e. omega arith);
        none = kept.none;
      })

  pub edit_kept :
      ((j : ℕ) → (j ≡ i → ⊥) → of_tile j (standing 2 (length (front_of s)) after) ≡ of_tile j (standing 2 (length (front_of s)) (pieces s))) →
      KeptBy s (front_of s) (front_of s) after (λ j. eqb j i)
  edit_kept k =
      kept_again s o after well (stays 1 (λ e. omega arith) (λ e. omega arith) (λ e. omega arith))
      (stays 4 (λ e. omega arith) (λ e. omega arith) (λ e. omega arith)) (λ j n. k j (eqb-false j i n))

  pub edit_tiles : (j : ℕ) → tiles_of (front_of s ++ joined after) j ≡ held_in (element_count (front_of s)) j (standing 2 (length (front_of s)) after)
  edit_tiles = tiles_again s o after well (kept.bodies (parted s o).bodies)
