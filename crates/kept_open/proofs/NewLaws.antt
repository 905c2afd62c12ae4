-- A plain tile record made for a page that is open for writing: it is right by itself, and what it holds. Assumes nothing.
use Prim.Native.Nat.{ℕ, ◌+◌, ◌<◌}
use mathlib.Core.Path.{◌≡◌, refl}
use mathlib.Core.List.{List, ◌++◌}
use mathlib.Core.Bool.{true}
use native.Mathlib.Omega.{arith}
use lib.ListN.{length}
use Rattle.wire.specs.Tests.{sum_below}
use Rattle.wire.specs.Bytes.{Bytes, bytes_of}
use Rattle.wire.proofs.ByteLaws.{bytes_append, bytes_of_lem}
use Rattle.wire.proofs.PlaceLaws.{Placed, placed_self, placed_last}
use Rattle.record.specs.Chain.{records}
use Rattle.header.specs.Fields.{checksum_enabled, element_count}
use Rattle.geometry.specs.Tiles.{tile_count}
use Rattle.geometry.specs.Sizes.{element_bytes, tile_bytes, plain_tile_length}
use Rattle.bodies.specs.TileRecord.{tile_index, element_content_at}
use Rattle.check_header.specs.Passed.{InRange}
use Rattle.check_records.specs.declared.Rule.TheVariants.{Body}
use Rattle.check_records.specs.Faults.{right_of}
use Rattle.page_check.proofs.GivenLaws.{sound_range}
use Rattle.written_records.specs.Tile.{sections, plain_record, tile_record}
use Rattle.written_records.proofs.SealLaws.{sections_bytes}
use Rattle.written_records.proofs.TileLaws.{tile_length_lem}
use Rattle.alone.specs.Alone.{alone}
use Rattle.alone.specs.Edited.{New}
use Rattle.alone.proofs.HeaderLaws.{header_sym, header_trans, front_header}
use Rattle.writable.specs.Writable.{Open}
use Rattle.correct.specs.Storing.{plain_contents}
use Rattle.page_laws.specs.TileMap.{contents_alone}
use Rattle.page_laws.proofs.TileMapLaws.{below_map}
use Rattle.written_rules.proofs.RecordLaws.{new_piece, new_checksum}
use Rattle.written_rules.proofs.PlainLaws.{TileHere, tile_typed, tile_short, tile_indexed, tile_states, tile_bytes_lem, tile_body}
use Rattle.kept_open.proofs.AgainLaws.{front_of, parted}

module _ (s : List ℕ) (o : Open s) (i : ℕ) (c : List ℕ) (below : i < tile_count s) (cells : Bytes c) (long : length c ≡ tile_bytes s) where
  range : InRange s (length s)
  range = sound_range s (records s) o.sound

  tile_at_lem : (t : List ℕ) (x : ℕ) → Placed t x (tile_record s i c) → TileHere s t c i x
  tile_at_lem t x p = record { range = range; below = below; long = long; here = p }

  by_itself : TileHere s (tile_record s i c) c i 0
  by_itself = tile_at_lem (tile_record s i c) 0 (placed_self (tile_record s i c))

  pub new_length : length (tile_record s i c) ≡ plain_tile_length s
  new_length = tile_length_lem s range.all i c long

  pub new_index : tile_index (tile_record s i c) 0 ≡ i
  new_index = tile_indexed by_itself

  body_bytes : Bytes (bytes_of 4 i ++ sections s (element_count s) c)
  body_bytes = bytes_append (bytes_of_lem 4 i) (sections_bytes s (element_count s) cells)

  body_right_lem : alone (front_of s) Body (tile_record s i c) ≡ true
  unfolding alone right_of
  body_right_lem =
      let p = parted s o in
      tile_body (tile_at_lem (front_of s ++ tile_record s i c) (length (front_of s)) (placed_last (front_of s) (tile_record s i c) refl))
      (header_trans (header_sym (front_header p.front (tile_record s i c))) (header_sym p.header))

  pub new_tile : New (front_of s) (tile_record s i c)
  unfolding tile_record plain_record sections
  new_tile =
      let p = parted s o in
      record {
        piece = new_piece (checksum_enabled s) 2 (bytes_of 4 i ++ sections s (element_count s) c) body_bytes (omega arith) (tile_short by_itself);
        type = tile_typed by_itself;
        checksum =
            new_checksum (checksum_enabled s) 2 (bytes_of 4 i ++ sections s (element_count s) c) body_bytes (omega arith) (tile_short by_itself) (front_of s) p.front
            p.header.flag (λ z. omega arith);
        body = body_right_lem;
      }

  pub new_contents : contents_alone (element_count s) (tile_record s i c) ≡ plain_contents s c
  unfolding contents_alone plain_contents
  new_contents =
      below_map (element_count s) _ _
      (λ e h.
      let x : element_content_at (tile_record s i c) 0 e + 0 ≡ element_content_at (tile_record s i c) 0 e = omega arith in
      let y : sum_below e (element_bytes s) + 0 ≡ sum_below e (element_bytes s) = omega arith in
      rw (tile_states by_itself e h) (rw (x, y) at (tile_bytes_lem by_itself e h 0 (element_bytes s e) (omega arith))))
