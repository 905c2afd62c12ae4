-- A file that is laid down obeys each rule, so the check accepts it. Assumes nothing.
use Rattle.std.specs.Prelude.{Ok}
use Prim.Native.Nat.{ℕ, ◌+◌, ◌*◌, ◌<◌}
use mathlib.Core.Path.{◌≡◌, sym, ap, ◌∙◌, refl}
use mathlib.Core.List.{List}
use mathlib.Core.Logic.{⊎_elim}
use mathlib.Core.Bool.{true}
use native.Mathlib.Omega.{arith}
use lib.ListN.{length, get_or}
use Rattle.wire.proofs.ByteLaws.{bytes_append, bytes_part, bytes_of_lem}
use Rattle.header.specs.Fields.{checksum_enabled, element_count}
use Rattle.record.specs.Chain.{starts_of}
use Rattle.record.specs.Record.{length_at}
use Rattle.geometry.specs.Sizes.{plain_tile_length}
use Rattle.check_records.specs.Checksum.{checksum_right}
use Rattle.check_records.specs.Faults.{body_right}
use Rattle.check_records.proofs.RecordLaws.{body_other}
use Rattle.page_check.specs.Stages.{check}
use Rattle.page_check.specs.Accepted.{ObeysBy}
use Rattle.page_check.proofs.AcceptedLaws.{obeys_accepted}
use Rattle.written_records.specs.Tile.{sections, plain_record, tile_record}
use Rattle.written_records.proofs.SealLaws.{sections_bytes}
use Rattle.lay_down.specs.Page.{directory_body, directory_record, directory_start, laid_file}
use Rattle.lay_down.proofs.ChainLaws.{laid_records}
use Rattle.lay_down.proofs.PageLaws.{directory_bytes}
use Rattle.read_back.proofs.Setting.{Laying}
use Rattle.read_back.proofs.FrontLaws.{front_kept, front_headed}
use Rattle.written_rules.proofs.RecordLaws.{record_checksum}
use Rattle.written_rules.proofs.PlainLaws.{tile_short, tile_body}
use Rattle.read_back.proofs.ChecksumLaws.{header_checksum}
use Rattle.read_back.proofs.TileLaws.{kept_header}
use Rattle.read_back.proofs.RecordLaws.{tile_here, directory_placed, directory_short, directory_typed, chain_laid, start_of}
use Rattle.read_back.proofs.DirectoryLaws.{tiles_laid, metadata_laid, space_laid}

module _ {f : List ℕ} {t : ℕ} {ix c : List ℕ} (l : Laying f t ix c) where
  tile_checksum : (k : ℕ) → k < length ix → checksum_right (laid_file f t ix c) (length f + k * plain_tile_length f) ≡ true
  unfolding tile_record plain_record sections
  tile_checksum k h =
      let p = tile_here l k h in
      record_checksum (checksum_enabled f) 2 _ p.here (front_kept l).flag
      (bytes_append (bytes_of_lem 4 (get_or ix k 0)) (sections_bytes f (element_count f) (bytes_part _ _ l.cell_bytes))) (λ z. omega arith) (omega arith)
      (tile_short p)

  directory_checksum : checksum_right (laid_file f t ix c) (directory_start f ix) ≡ true
  unfolding directory_record
  directory_checksum =
      record_checksum (checksum_enabled f) 5 (directory_body f ix) (directory_placed l) (front_kept l).flag (directory_bytes f ix) (λ z. omega arith) (omega arith)
      (directory_short l)

  directory_body_lem : body_right (laid_file f t ix c) (directory_start f ix) ≡ true
  directory_body_lem =
      sym (body_other (laid_file f t ix c) 5 (directory_start f ix) (length_at (laid_file f t ix c) (directory_start f ix)) (record { type_is = sym (directory_typed l); length_is = refl }) (λ z. omega arith) (λ z. omega arith))

  pub laid_obeys : ObeysBy (laid_file f t ix c) (starts_of (length f) (laid_records f ix c))
  laid_obeys =
      let s = laid_file f t ix c in
      let h = front_headed l in
      record {
        sound = record {
          headed = h.0;
          chain = rw (front_kept l).ends (chain_laid l);
          header_checksum = header_checksum l;
          checksums =
              λ m.
              ⊎_elim (λ p. ap (checksum_right s) p.start ∙ tile_checksum p.number p.among)
              (λ e. ap (checksum_right s) e ∙ directory_checksum) (start_of l m);
          bodies =
              λ m.
              ⊎_elim (λ p. ap (body_right s) p.start ∙ tile_body (tile_here l p.number p.among) (kept_header (front_kept l)))
              (λ e. ap (body_right s) e ∙ directory_body_lem) (start_of l m);
          tile_directory = tiles_laid l;
          metadata_directory_lem = metadata_laid l;
        };
        not_opened = h.1;
        file_space = space_laid l;
      }

  pub laid_accepted : check (laid_file f t ix c) ≡ Ok tt
  laid_accepted = obeys_accepted _ _ laid_obeys
