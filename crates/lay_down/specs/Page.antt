-- Document 01, 'Laying down a page': the file that is written, byte for byte. f is the front, t the time modified, ix the tile
-- indexes, c the cell bytes of those tiles one after another, all elements in order, no lengths, no padding.
use Rattle.std.specs.Prelude.{ℕ, ◌+◌, ◌*◌, ◌/◌, ◌-◌, ◌≤◌, ◌<◌, ◌≡◌, ◌⊎◌, List, [], ◌∷◌, ◌++◌, length, take, drop, eqb}
use Rattle.wire.specs.Pick.{pick}
use Rattle.wire.specs.Bytes.{bytes_of, put, zeros}
use Rattle.header.specs.Fields.{checksum_enabled, time_modified, time_opened, file_space_reference, metadata_reference, tile_directory_reference}
use Rattle.record.specs.Record.{content_at}
use Rattle.record.specs.Chain.{joined}
use Rattle.record.specs.Types.{tile_directory_type}
use Rattle.geometry.specs.Tiles.{tile_count}
use Rattle.geometry.specs.Sizes.{tile_bytes, plain_tile_length}
use Rattle.written_records.specs.Pieces.{record_length, record_of, sealed}
use Rattle.written_records.specs.Tile.{tile_record}
use Rattle.written_records.specs.Directory.{references_of, directory_of}

-- one tile record for each index in order
unfoldable pub tile_records : List ℕ → List ℕ → List ℕ → List (List ℕ)
tile_records f [] c = []
tile_records f (i ∷ is) c = tile_record f i (take (tile_bytes f) c) ∷ tile_records f is (drop (tile_bytes f) c)

-- the compact reference of tile j, where the records of the tiles ix start at `at`: the content's position divided by 8, zero
-- where the tile is not given
unfoldable pub compact_from : List ℕ → ℕ → List ℕ → ℕ → ℕ
compact_from f at [] j = 0
compact_from f at (i ∷ is) j = pick (eqb i j) (content_at at / 8) (compact_from f (at + plain_tile_length f) is j)

-- the references of the first n tiles of the grid
unfoldable pub references : List ℕ → List ℕ → ℕ → List ℕ
references f ix n = references_of (compact_from f (length f) ix) n

-- G Table 21: the rectangle of all tiles, then the references, row by row
unfoldable pub directory_body : List ℕ → List ℕ → List ℕ
directory_body f ix = directory_of f (compact_from f (length f) ix)

unfoldable pub directory_record : List ℕ → List ℕ → List ℕ
directory_record f ix = record_of (checksum_enabled f) tile_directory_type (directory_body f ix)

-- where the directory starts, and how long the file is
unfoldable pub directory_start : List ℕ → List ℕ → ℕ
directory_start f ix = length f + length ix * plain_tile_length f

unfoldable pub file_length : List ℕ → List ℕ → ℕ
file_length f ix = directory_start f ix + record_length (24 + 4 * tile_count f)

-- the front with time modified set, time opened zero, file-space and metadata references zero, and the tile directory reference d
unfoldable pub fields_set : List ℕ → ℕ → ℕ → List ℕ
fields_set f t d = put (put (put (put (put f 40 (bytes_of 8 t)) 48 (zeros 8)) 56 (zeros 8)) 64 (zeros 8)) 80 (bytes_of 8 d)

-- and its checksum made anew, over the header record's own bytes, from 16 on
unfoldable pub laid_front : List ℕ → ℕ → ℕ → List ℕ
laid_front f t d = sealed (checksum_enabled f) (fields_set f t d) 16 (length f - 16)

-- the file
unfoldable pub laid_file : List ℕ → ℕ → List ℕ → List ℕ → List ℕ
laid_file f t ix c = laid_front f t (content_at (directory_start f ix)) ++ joined (tile_records f ix c) ++ directory_record f ix

-- what a header says whose fields are set so; a time that eight bytes hold is read as it was given
pub record FieldsRead (s : List ℕ) (t d : ℕ) : Type 0 where
  pub modified : t < 18446744073709551616 → time_modified s ≡ t
  pub opened : time_opened s ≡ 0
  pub space : file_space_reference s ≡ 0
  pub metadata : metadata_reference s ≡ 0
  pub tiles : tile_directory_reference s ≡ d

-- the position of a byte of none of those fields, which stand at 40 to 71 and 80 to 87
abbrev pub NotSet : ℕ → Type 0
NotSet i = (i < 40) ⊎ (((72 ≤ i) × (i < 80)) ⊎ (88 ≤ i))
