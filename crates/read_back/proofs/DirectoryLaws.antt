-- Stage 9 passes on a file that is laid down. Assumes nothing.
use Prim.Native.Nat.{ℕ, ◌+◌, ◌*◌, ◌<◌}
use mathlib.Core.Path.{◌≡◌, sym, ap, ◌∙◌}
use mathlib.Core.List.{List, []}
use mathlib.Core.Logic.{◌⊎◌, inl, inr, ⊎_elim}
use mathlib.Core.Bool.{true}
use native.Mathlib.Omega.{arith}
use lib.ListN.{length, get_or}
use Rattle.wire.proofs.TestLaws.{yes}
use Rattle.header.specs.Fields.{checksum_enabled, tile_directory_reference}
use Rattle.record.specs.Record.{content_at}
use Rattle.geometry.specs.Tiles.{tile_count}
use Rattle.geometry.specs.Sizes.{plain_tile_length}
use Rattle.record.specs.Chain.{records_of}
use Rattle.check_directory.specs.TileRules.{tiles_listed, tiles_only, tile_directory_right}
use Rattle.bodies.specs.TileDirectory.{tile_reference}
use Rattle.check_directory.specs.Correspondence.{TileRecord}
use Rattle.check_directory.proofs.MemberLaws.{one_of_type}
use Rattle.check_directory.proofs.CorrespondLaws.{if_listed, if_only}
use Rattle.check_lists.specs.Metadata.{metadata_directory_right}
use Rattle.check_lists.specs.FileSpace.{file_space_right}
use Rattle.check_lists.proofs.EmptyLaws.{metadata_empty, space_empty}
use Rattle.written_rules.proofs.PlainLaws.{tile_indexed}
use Rattle.written_rules.proofs.FullDirectoryLaws.{FullAt, full_reference, full_form, full_rectangle, full_padded}
use Rattle.lay_down.specs.Page.{compact_from, directory_body, directory_record, directory_start, file_length, laid_file}
use Rattle.lay_down.proofs.IndexLaws.{Given, compact_given, compact_found, compact_most}
use Rattle.read_back.proofs.Setting.{Laying, front_range, front_eights, across_kept, down_kept, tiles_kept}
use Rattle.read_back.proofs.FrontLaws.{front_kept, fields_laid}
use Rattle.read_back.proofs.RecordLaws.{index_below, tile_here, directory_placed, directory_short, directories_of, none_of, tile_among, among_tiles}

module _ {f : List ℕ} {t : ℕ} {ix c : List ℕ} (l : Laying f t ix c) where
  -- what the fields hold

  compact_tile : (k : ℕ) → k < length ix → compact_from f (length f) ix (get_or ix k 0) * 8 ≡ content_at (length f + k * plain_tile_length f)
  compact_tile k h = compact_given f (length f) (tile_count f) 0 ix (front_eights l) l.indexes k h

  compact_small : (j : ℕ) → compact_from f (length f) ix j < 4294967296
  unfolding file_length directory_start
  compact_small j = omega (arith, compact_most f (length f) ix j, l.file)

  abbrev s : List ℕ
  s = laid_file f t ix c

  -- the directory, and what it gives for a tile

  full : FullAt f (compact_from f (length f) ix) (checksum_enabled f) s (directory_start f ix)
  unfolding directory_record directory_body
  full =
      record {
        placed = directory_placed l;
        refers = (fields_laid l).tiles;
        sides = (front_range l).sides;
        down = down_kept (front_kept l);
        across = across_kept (front_kept l);
        small = λ j h. compact_small j;
        short = directory_short l;
      }

  tile_reference_lem : (i : ℕ) → i < tile_count f → tile_reference s i ≡ compact_from f (length f) ix i * 8
  tile_reference_lem = full_reference full

  pub given_reference : (j : ℕ) → j < length ix → tile_reference s (get_or ix j 0) ≡ content_at (length f + j * plain_tile_length f)
  given_reference j h = tile_reference_lem (get_or ix j 0) (index_below l j h) ∙ compact_tile j h

  -- and zero where the tile is not given
  pub reference_found : (i : ℕ) → i < tile_count f → (tile_reference s i ≡ 0) ⊎ Given ix i
  reference_found i h = ⊎_elim (λ e. inl (tile_reference_lem i h ∙ omega (arith, e))) (λ g. inr g) (compact_found f (length f) ix i)

  -- the rules

  tiles_listed_lem : tiles_listed s ≡ true
  tiles_listed_lem = if_listed s (λ x m. let p = among_tiles l m in rw (p.start, tile_indexed (tile_here l p.number p.among)) (given_reference p.number p.among))

  tiles_only_lem : tiles_only s ≡ true
  tiles_only_lem =
      if_only s (λ i h z. ⊎_elim (λ e. absurd (z e)) (record_there i) (reference_found i (omega (arith, tiles_kept (front_kept l)))))
    where
      record_there : (i : ℕ) → Given ix i → TileRecord s i
      record_there i g =
          record {
            start = length f + g.number * plain_tile_length f;
            among = tile_among l g.number g.among;
            index = tile_indexed (tile_here l g.number g.among) ∙ g.index;
            content = sym (given_reference g.number g.among) ∙ ap (tile_reference s) g.index;
          }

  -- stage 9, directory by directory

  pub tiles_laid : tile_directory_right s ≡ true
  unfolding tile_directory_right
  tiles_laid =
      let o = one_of_type s 5 (tile_directory_reference s) (directory_start f ix) (directories_of l) (fields_laid l).tiles in
      sym (yes _ (o.0, (o.1, (full_form full, (full_rectangle full, (full_padded full, (tiles_listed_lem, (tiles_only_lem, tt))))))))

  none : (d : ℕ) → (d ≡ 2 → ⊥) → (d ≡ 5 → ⊥) → records_of s d ≡ []
  none = none_of l

  pub metadata_laid : metadata_directory_right s ≡ true
  metadata_laid = metadata_empty s (fields_laid l).metadata (none 4 (λ e. omega arith) (λ e. omega arith)) (none 1 (λ e. omega arith) (λ e. omega arith))

  pub space_laid : file_space_right s ≡ true
  space_laid = space_empty s (fields_laid l).space (none 3 (λ e. omega arith) (λ e. omega arith)) (none 0 (λ e. omega arith) (λ e. omega arith))
