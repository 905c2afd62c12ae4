-- An accepted file that is opened is open for writing, and keeps its tiles and metadata. Assumes nothing.
use Prim.Native.Nat.{ℕ}
use mathlib.Core.Path.{◌≡◌, sym, ap, ◌∙◌}
use mathlib.Core.List.{List, map}
use mathlib.Core.Bool.{true, false}
use native.Mathlib.Omega.{arith}
use lib.ListN.{length}
use Rattle.wire.proofs.ByteLaws.{same_part}
use Rattle.record.specs.Chain.{joined}
use Rattle.check_records.specs.declared.Rule.TheVariants.{Body}
use Rattle.check_lists.specs.Metadata.{metadata_directory_right}
use Rattle.page_check.specs.Accepted.{Sound}
use Rattle.pieces.specs.Pieces.{pieces, nothing_to_join}
use Rattle.pieces.specs.Standing.{place_of, standing}
use Rattle.alone.proofs.StandLaws.{standing_keeps, records_are}
use Rattle.writable.specs.Writable.{directory_full, Open}
use Rattle.writable.proofs.PartLaws.{judged_headed}
use Rattle.correct.specs.Opening.{opened_front, opened_page}
use Rattle.page_laws.specs.Tiles.{tiles_of, tile_directory_of, of_tile}
use Rattle.page_laws.proofs.TileMapLaws.{pieces_are, tiles_same}
use Rattle.page_laws.proofs.PageLaws.{parted_alone, made_sound}
use Rattle.page_laws.proofs.KeptLaws.{KeptBy, kept_standing_lem, kept_places, kept_follows}
use Rattle.opened_pages.specs.OpenedPages.{Opens, OpenedOpens}
use Rattle.opened_pages.proofs.FrontLaws.{sound, parted, f, opened_length_lem, opened_front_lem, opened_header, opened_checksum, opened_metadata, page_time, page_modified, page_reference, page_refers, page_opened, page_space, opened_unset, opened_between, page_judged}
use Rattle.opened_pages.proofs.PieceLaws.{qs, page_well, page_alone, page_stays, page_kept, page_spaceless, page_none}
use Rattle.opened_pages.proofs.DirectoryLaws.{u, directory_right}

module _ {s : List ℕ} {t : ℕ} (o : Opens s t) where
  stays : (kind : ℕ) → (kind ≡ 0 → ⊥) → (kind ≡ 3 → ⊥) → (kind ≡ 5 → ⊥) → standing kind (length (f o)) (pieces s) ≡ standing kind (length (opened_front s t)) (qs o)
  stays = page_stays o

  metadata_right_lem : metadata_directory_right (u o) ≡ true
  metadata_right_lem =
      let p = parted o in
      sym
      (standing_keeps (f o) (pieces s) (opened_front s t) (qs o)
      (record {
        first = p.front;
        second = opened_front_lem o;
        ends = sym (opened_length_lem o);
        reference = sym (opened_metadata o);
        formed = p.formed;
        formed_too = page_well o;
        right = parted_alone p Body;
        records = stays 1 (λ e. omega arith) (λ e. omega arith) (λ e. omega arith);
        directories = stays 4 (λ e. omega arith) (λ e. omega arith) (λ e. omega arith);
      }))
      ∙ ap metadata_directory_right (sym p.whole)
      ∙ (sound o).metadata_directory_lem

  opened_sound : Sound (u o)
  unfolding opened_page
  opened_sound =
      let j = page_judged o (joined (qs o)) in
      made_sound (opened_front s t) (qs o) (opened_front_lem o) (page_well o)
      (judged_headed s (u o) (length s) (length (u o)) (sound o).headed j j.in_second o.room) (opened_checksum o (joined (qs o))) (page_alone o)
      (directory_right o).0 metadata_right_lem

  opened_open : Open (u o)
  unfolding pieces
  opened_open =
      record {
        sound = opened_sound;
        opened = page_opened o (joined (qs o));
        full = (directory_right o).1;
        no_reference = page_space o (joined (qs o));
        no_directory = records_are (opened_front s t) (opened_front_lem o) (qs o) (page_well o) 3 ∙ ap (map place_of) (page_spaceless o);
        none_adjoin = ap nothing_to_join (pieces_are (opened_front s t) (opened_front_lem o) (qs o) (page_well o)) ∙ page_none o;
      }

  kept : KeptBy s (f o) (opened_front s t) (qs o) (λ j. false)
  kept =
      record {
        parted = parted o;
        front = opened_front_lem o;
        formed = page_well o;
        header = opened_unset o (joined (qs o));
        reference = same_part (opened_between o (joined (qs o))) 64 72 (omega arith) (omega arith);
        metadata = stays 1 (λ e. omega arith) (λ e. omega arith) (λ e. omega arith);
        directory = stays 4 (λ e. omega arith) (λ e. omega arith) (λ e. omega arith);
        records = λ j n. ap (of_tile j) (sym (stays 2 (λ e. omega arith) (λ e. omega arith) (λ e. omega arith)));
      }

  opened_tiles : (j : ℕ) → tiles_of (u o) j ≡ tiles_of s j
  opened_tiles j =
      let p = parted o in
      sym
      (ap (λ (l : List ℕ). tiles_of l j) p.whole
      ∙ tiles_same p.front (opened_front_lem o) (opened_header o) (pieces s) (qs o) p.formed (page_well o) (parted_alone p Body) (page_alone o Body)
      (stays 2 (λ e. omega arith) (λ e. omega arith) (λ e. omega arith)) j)

  opened_directory : directory_full s ≡ true → tile_directory_of (u o) ≡ tile_directory_of s
  unfolding tile_directory_of
  opened_directory e = kept_standing_lem kept 5 (page_kept o e)

pub opened_opens : OpenedOpens
unfolding opened_page
opened_opens s t o =
    record {
      open_page_lem = opened_open o;
      follows = kept_follows (kept o) (opened_tiles o);
      places = kept_places (kept o);
      time = page_time o (joined (qs o));
      modified = page_modified o (joined (qs o));
      directory = opened_directory o;
      reference = page_reference o (joined (qs o));
      new_reference = page_refers o (joined (qs o));
    }
