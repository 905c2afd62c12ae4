-- Req 03: "the tiles are those of a map from index to bytes, untouched compressed tiles and metadata kept as they are". What a page's
-- tiles and metadata are, whether it is accepted or open for writing, and what calls keep of a page.
use Rattle.std.specs.Prelude.{ℕ, ◌-◌, ◌≤◌, ◌≡◌, List, [], ◌∷◌, ◌++◌, map, Bool, false, length, eqb, None, Option, Some}
use Rattle.wire.specs.Pick.{pick}
use Rattle.wire.specs.Bytes.{part, Same}
use Rattle.wire.specs.Lists.{below}
use Rattle.record.specs.Types.{tile_type, tile_directory_type, metadata_type, metadata_directory_type}
use Rattle.record.specs.Chain.{header_end}
use Rattle.header.specs.Fields.{element_count}
use Rattle.bodies.specs.TileRecord.{tile_index, section_length, element_content_at}
use Rattle.pieces.specs.Pieces.{pieces}
use Rattle.pieces.specs.Standing.{standing}
use Rattle.correct.specs.Storing.{tile_at}

-- the content of each element in the tile record at x, as it is stored: L bytes, compressed or not
unfoldable pub contents_in : List ℕ → ℕ → List (List ℕ)
contents_in s x = map (λ e. part s (element_content_at s x e) (section_length s x e)) (below (element_count s))

-- the map: what tile i holds; nothing where it is not stored. A page has an element, so a stored tile holds something
abbrev pub contents_of : List ℕ → Option ℕ → List (List ℕ)
contents_of s None = []
contents_of s (Some x) = contents_in s x

unfoldable pub tiles_of : List ℕ → ℕ → List (List ℕ)
tiles_of s i = contents_of s (tile_at s i)

-- the records of a type, each with its place and its bytes
unfoldable pub standing_of : ℕ → List ℕ → List (ℕ × List ℕ)
standing_of kind s = standing kind (header_end s) (pieces s)

-- and without their places, in file order
abbrev pub bytes_in : ℕ × List ℕ → List ℕ
bytes_in p = p.1

unfoldable pub bytes_standing : ℕ → List ℕ → List (List ℕ)
bytes_standing kind s = map bytes_in (standing_of kind s)

-- the metadata records and the metadata directory
unfoldable pub metadata_of : List ℕ → List (ℕ × List ℕ)
metadata_of s = standing_of metadata_type s ++ standing_of metadata_directory_type s

-- the tile directory; a sound page has one
unfoldable pub tile_directory_of : List ℕ → List (ℕ × List ℕ)
tile_directory_of s = standing_of tile_directory_type s

-- of tile records with their places, those of tile j
unfoldable pub of_tile : ℕ → List (ℕ × List ℕ) → List (ℕ × List ℕ)
of_tile j [] = []
of_tile j (p ∷ ps) = pick (eqb (tile_index p.1 0) j) (p ∷ of_tile j ps) (of_tile j ps)

-- the tile record of tile j, with its place and its bytes; a sound page has one at most
unfoldable pub record_of_tile : List ℕ → ℕ → List (ℕ × List ℕ)
record_of_tile s j = of_tile j (standing_of tile_type s)

unfoldable pub bytes_of_tile : List ℕ → ℕ → List (List ℕ)
bytes_of_tile s j = map bytes_in (record_of_tile s j)

-- the header's bytes that no call sets are the same: all but the times and references from 40 up to 72, the tile directory's reference
-- at 80, and the checksum
pub record SameUnset (s t : List ℕ) : Type 0 where
  pub low : Same s t 0 40
  pub between : Same s t 72 80
  pub high : Same s t 88 (header_end s - 4)
  pub whole : header_end s ≤ length t

-- t comes from s by calls that name some tiles: what every call keeps. The metadata records have the bytes and the order that they had,
-- the record of a tile that no call names has its bytes, and the tiles are those that the map gives
pub record Follows (s t : List ℕ) (named : ℕ → Bool) (tiles : ℕ → List (List ℕ)) : Type 0 where
  pub header : SameUnset s t
  pub metadata : bytes_standing metadata_type t ≡ bytes_standing metadata_type s
  pub records : (j : ℕ) → named j ≡ false → bytes_of_tile t j ≡ bytes_of_tile s j
  pub map_of : (j : ℕ) → tiles_of t j ≡ tiles j

-- and what every call keeps that moves no record which it does not name. Req 03, reading 20: the metadata, its directory and the header's
-- reference to that, and the tile records that no call names keep place and bytes
pub record InPlace (s t : List ℕ) (named : ℕ → Bool) : Type 0 where
  pub reference : Same s t 64 72
  pub metadata : metadata_of t ≡ metadata_of s
  pub records : (j : ℕ) → named j ≡ false → record_of_tile t j ≡ record_of_tile s j
