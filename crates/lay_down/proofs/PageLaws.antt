-- The lengths of what is laid down, and that a directory's body is bytes. Assumes nothing.
use Prim.Native.Nat.{ℕ, suc, ◌+◌, ◌*◌, ◌-◌, ◌≤◌}
use mathlib.Core.Path.{◌≡◌, ap, ◌∙◌}
use mathlib.Core.List.{List, [], ◌∷◌, ◌++◌}
use native.Mathlib.Omega.{arith}
use lib.ListN.{length, take, drop, length-append, length-drop}
use lib.Seq.{length-take-le}
use Rattle.wire.specs.Bytes.{Bytes}
use Rattle.header.specs.Fields.{checksum_enabled, element_count}
use Rattle.header.specs.Element.{entries_read}
use Rattle.record.specs.Record.{content_at}
use Rattle.record.specs.Chain.{joined}
use Rattle.wire.proofs.PutLaws.{length_put}
use Rattle.geometry.specs.Tiles.{tile_count}
use Rattle.geometry.specs.Sizes.{tile_bytes, plain_tile_length}
use Rattle.written_records.specs.Pieces.{record_length, sealed}
use Rattle.written_records.specs.Tile.{tile_record}
use Rattle.written_records.proofs.PieceLaws.{record_holds, record_length_lem}
use Rattle.written_records.proofs.TileLaws.{tile_length_lem}
use Rattle.written_records.proofs.DirectoryLaws.{references_of_length, directory_of_length, directory_of_bytes}
use Rattle.lay_down.specs.Page.{tile_records, references, directory_body, directory_record, compact_from, directory_start, file_length, fields_set, laid_front, laid_file}

-- the cell bytes of the first tile, and those of the others
pub cells_split : (t n : ℕ) (c : List ℕ) → length c ≡ suc n * t → (length (take t c) ≡ t) × (length (drop t c) ≡ n * t)
cells_split t n c h =
    let m : suc n * t ≡ n * t + t = omega arith in
    (length-take-le t c (omega arith), length-drop t c ∙ omega arith)

-- so the records of all tiles are as many times as long
pub tiles_length :
    (f ix c : List ℕ) → entries_read f ≡ element_count f → length c ≡ length ix * tile_bytes f →
    length (joined (tile_records f ix c)) ≡ length ix * plain_tile_length f
unfolding tile_records
tiles_length f [] c all h = omega arith
tiles_length f (i ∷ is) c all h =
    let p = cells_split (tile_bytes f) (length is) c h in
    let a = length-append (tile_record f i (take (tile_bytes f) c)) (joined (tile_records f is (drop (tile_bytes f) c))) in
    let b = tile_length_lem f all i (take (tile_bytes f) c) p.0 in
    let d = tiles_length f is (drop (tile_bytes f) c) all p.1 in
    omega arith

-- the directory

pub references_length : (f ix : List ℕ) (n : ℕ) → length (references f ix n) ≡ 4 * n
unfolding references
references_length f ix n = references_of_length (compact_from f (length f) ix) n

pub body_length : (f ix : List ℕ) → length (directory_body f ix) ≡ 24 + 4 * tile_count f
unfolding directory_body
body_length f ix = directory_of_length f (compact_from f (length f) ix)

pub directory_bytes : (f ix : List ℕ) → Bytes (directory_body f ix)
unfolding directory_body
directory_bytes f ix = directory_of_bytes f (compact_from f (length f) ix)

pub directory_length : (f ix : List ℕ) → length (directory_record f ix) ≡ record_length (24 + 4 * tile_count f)
unfolding directory_record
directory_length f ix = record_length_lem (checksum_enabled f) 5 (directory_body f ix) ∙ ap record_length (body_length f ix)

pub directory_holds : (f : List ℕ) → 36 + 4 * tile_count f ≤ record_length (24 + 4 * tile_count f)
directory_holds f = omega (arith, record_holds (24 + 4 * tile_count f))

-- the front keeps its length
pub fields_length : (f : List ℕ) (t d : ℕ) → length (fields_set f t d) ≡ length f
unfolding fields_set
fields_length f t d = length_put _ 80 _ ∙ length_put _ 64 _ ∙ length_put _ 56 _ ∙ length_put _ 48 _ ∙ length_put f 40 _

pub front_length : (f : List ℕ) (t d : ℕ) → length (laid_front f t d) ≡ length f
unfolding laid_front sealed
front_length f t d = length_put _ (16 + (length f - 16 - 4)) _ ∙ fields_length f t d

-- and the file has the length that is answered; what stands before the directory ends where that starts
module _ (f : List ℕ) (t : ℕ) (ix c : List ℕ) (all : entries_read f ≡ element_count f) (h : length c ≡ length ix * tile_bytes f) where
  pub lead_length : length (laid_front f t (content_at (directory_start f ix)) ++ joined (tile_records f ix c)) ≡ directory_start f ix
  unfolding directory_start
  lead_length =
      let d = content_at (directory_start f ix) in
      length-append (laid_front f t d) (joined (tile_records f ix c)) ∙ omega (arith, front_length f t d, tiles_length f ix c all h)

  pub laid_length : length (laid_file f t ix c) ≡ file_length f ix
  unfolding laid_file file_length
  laid_length =
      length-append (laid_front f t (content_at (directory_start f ix)) ++ joined (tile_records f ix c)) (directory_record f ix)
      ∙ omega (arith, lead_length, directory_length f ix)
