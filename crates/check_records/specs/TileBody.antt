-- Document 01, stage 8; G Tables 15 and 16: the body of a tile record.
use Rattle.std.specs.Prelude.{ℕ, ◌+◌, ◌≡◌, List, [], ◌∷◌, Bool, true, false}
use Rattle.wire.specs.Tests.{◌≤?◌, is, passes, all_below}
use Rattle.wire.specs.Bytes.{largest_integer}
use Rattle.header.specs.Fields.{element_count}
use Rattle.record.specs.Record.{length_at}
use Rattle.geometry.specs.declared.Packing.{Packing}
use Rattle.geometry.specs.declared.Packing.TheVariants.{Uncompressed, Compressed, Fault}
use Rattle.geometry.specs.Tiles.{tile_count}
use Rattle.geometry.specs.Sizes.{element_packing, tile_length}
use Rattle.bodies.specs.TileRecord.{section_length, tile_index, tile_end}
use Rattle.check_records.specs.Frame.{end_right}

-- what that length is: uncompressed, compressed or a fault
unfoldable pub section_packing : List ℕ → ℕ → ℕ → Packing
section_packing s at e = element_packing s e (section_length s at e)

-- it is no fault
abbrev pub not_fault : Packing → Bool
not_fault Uncompressed = true
not_fault Compressed = true
not_fault Fault = false

unfoldable pub section_right : List ℕ → ℕ → ℕ → Bool
section_right s at e = not_fault (section_packing s at e)

-- a tile index is at least 0 and below the tile count
unfoldable pub index_right : List ℕ → ℕ → Bool
index_right s at = passes ((tile_index s at ≤? largest_integer) ∷ (tile_index s at + 1 ≤? tile_count s) ∷ [])

-- the index is right; the sections end right; each L is from 1 to its element's U
unfoldable pub tile_right : List ℕ → ℕ → Bool
tile_right s at =
    passes
    (is (index_right s at) ∷ is (end_right s at (tile_end s at)) ∷ is (all_below (element_count s) (section_right s at)) ∷ [])

-- the record length is the least multiple of 8 that holds the index, the sections and the checksum: the sample sums' length
abbrev pub LeastTileLength : Type 0
LeastTileLength =
    (s : List ℕ) (at : ℕ) → tile_right s at ≡ true → length_at s at ≡ tile_length (element_count s) (section_length s at)
