-- What stages 1 to 4 give where they pass, and what stages 3 and 4 say of the fields as numbers. `s` is the bytes, n the file's length.
use Rattle.std.specs.Prelude.{ℕ, ◌≤◌, ◌<◌, ◌≡◌, List, true}
use Rattle.header.specs.Fields.{grid_rows, grid_columns, tile_rows, tile_columns, element_count, checksum_enabled}
use Rattle.header.specs.Element.{element, entries_read, most_elements, short_kind}
use Rattle.record.specs.Chain.{header_end}
use Rattle.geometry.specs.Tiles.{tile_count}
use Rattle.geometry.specs.Sizes.{tile_bytes}
use Rattle.check_header.specs.Identification.{identified, version_right}
use Rattle.check_header.specs.HeaderRecord.{header_right}
use Rattle.check_header.specs.Ceilings.{within_ceilings, most_grid_side, most_tile_side, most_file_bytes, most_tiles, most_tile_bytes}

pub record Headed (s : List ℕ) (n : ℕ) : Type 0 where
  pub block : identified s n ≡ true
  pub version : version_right s ≡ true
  pub header : header_right s n ≡ true
  pub ceilings : within_ceilings s n ≡ true

pub record Sides (s : List ℕ) : Type 0 where
  pub rows : (1 ≤ grid_rows s) × (grid_rows s ≤ most_grid_side)
  pub columns : (1 ≤ grid_columns s) × (grid_columns s ≤ most_grid_side)
  pub tile_rows_lem : (1 ≤ tile_rows s) × (tile_rows s ≤ most_tile_side)
  pub tile_columns_lem : (1 ≤ tile_columns s) × (tile_columns s ≤ most_tile_side)

pub record InRange (s : List ℕ) (n : ℕ) : Type 0 where
  pub file : n ≤ most_file_bytes
  pub header_least : 288 ≤ header_end s
  pub header_inside : header_end s ≤ n
  pub sides : Sides s
  pub tiles : tile_count s ≤ most_tiles
  pub elements : (1 ≤ element_count s) × (element_count s ≤ most_elements)
  pub all : entries_read s ≡ element_count s
  pub tile_size : tile_bytes s ≤ most_tile_bytes
  pub checksum_flag : checksum_enabled s ≤ 1
  pub kinds : (e : ℕ) → e < element_count s → (element s e).kind ≤ short_kind
