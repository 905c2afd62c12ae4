-- G 4.2.8 and Table 21: the fields of the tile directory, and what it gives for a tile.
use Rattle.std.specs.Prelude.{ℕ, ◌+◌, ◌*◌, ◌/◌, ◌%◌, ◌-◌, List, [], ◌∷◌, Bool, eqb}
use Rattle.wire.specs.Pick.{pick}
use Rattle.wire.specs.Tests.{◌≤?◌, is, passes}
use Rattle.wire.specs.Bytes.{byte_at, u32_at, u64_at}
use Rattle.header.specs.Fields.{tile_directory_reference}
use Rattle.geometry.specs.Tiles.{tiles_across}

-- the start of the record that the header refers to
unfoldable pub tile_directory_at : List ℕ → ℕ
tile_directory_at s = tile_directory_reference s - 8

-- Table 21: the fields of a tile directory, whose record starts at `at`
abbrev pub directory_format : List ℕ → ℕ → ℕ
directory_format s at = byte_at s (at + 8)

abbrev pub standard_references : List ℕ → ℕ → ℕ
standard_references s at = byte_at s (at + 9)

abbrev pub first_row : List ℕ → ℕ → ℕ
first_row s at = u32_at s (at + 16)

abbrev pub first_column : List ℕ → ℕ → ℕ
first_column s at = u32_at s (at + 20)

abbrev pub listed_rows : List ℕ → ℕ → ℕ
listed_rows s at = u32_at s (at + 24)

abbrev pub listed_columns : List ℕ → ℕ → ℕ
listed_columns s at = u32_at s (at + 28)

-- how many references there are
abbrev pub reference_count : List ℕ → ℕ
reference_count s = listed_rows s (tile_directory_at s) * listed_columns s (tile_directory_at s)

-- standard references have eight bytes, compact ones four
unfoldable pub reference_size : List ℕ → ℕ
reference_size s = pick (eqb (standard_references s (tile_directory_at s)) 1) 8 4

-- the position that reference number k gives: a compact one times 8, with no wrap; a standard one
-- as it stands
unfoldable pub reference_at : List ℕ → ℕ → ℕ → ℕ
reference_at s at k = pick (eqb (standard_references s at) 1) (u64_at s (at + 32 + 8 * k)) (u32_at s (at + 32 + 4 * k) * 8)

-- behind the last reference
unfoldable pub references_end : List ℕ → ℕ
references_end s = tile_directory_at s + 32 + reference_count s * reference_size s

-- a row or column of tiles lies in the span
unfoldable pub in_span : ℕ → ℕ → ℕ → Bool
in_span start side x = passes ((start ≤? x) ∷ (x + 1 ≤? start + side) ∷ [])

-- a tile, by its row and column of tiles, lies in the rectangle
unfoldable pub in_rectangle : List ℕ → ℕ → ℕ → ℕ → Bool
in_rectangle s at row column =
    passes (is (in_span (first_row s at) (listed_rows s at) row) ∷ is (in_span (first_column s at) (listed_columns s at) column) ∷ [])

-- its number there, row by row, each row as wide as the rectangle
unfoldable pub number_of : List ℕ → ℕ → ℕ → ℕ → ℕ
number_of s at row column = (row - first_row s at) * listed_columns s at + (column - first_column s at)

-- what the directory gives for the tile: its reference, and 0, no tile, outside the rectangle
unfoldable pub reference_of : List ℕ → ℕ → ℕ → ℕ → ℕ
reference_of s at row column = pick (in_rectangle s at row column) (reference_at s at (number_of s at row column)) 0

-- the same for a tile index
unfoldable pub reference_from : List ℕ → ℕ → ℕ → ℕ
reference_from s at i = reference_of s at (i / tiles_across s) (i % tiles_across s)

-- and from the directory that the header refers to
abbrev pub tile_reference : List ℕ → ℕ → ℕ
tile_reference s i = reference_from s (tile_directory_at s) i
