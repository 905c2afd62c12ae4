-- Document 01, stage 8: U, L and the least record length; other sources stand at the definitions.
use Rattle.std.specs.Prelude.{ℕ, ◌+◌, ◌*◌, List, leb, eqb}
use Rattle.wire.specs.Pick.{pick, round_up}
use Rattle.wire.specs.Tests.{sum_below}
use Rattle.header.specs.Fields.{tile_rows, tile_columns}
use Rattle.header.specs.Element.{cell_size, entries_read, element}
use Rattle.geometry.specs.declared.Packing.{Packing}
use Rattle.geometry.specs.declared.Packing.TheVariants.{Uncompressed, Compressed, Fault}

-- U, the uncompressed size of an element in a tile: tile rows times tile columns times 4, or times 2 for Short
unfoldable pub uncompressed : ℕ → ℕ → ℕ → ℕ
uncompressed h w kind = h * w * cell_size kind

-- a length L against U: from 1 to U; equal to U means uncompressed, less means compressed; 0, or more than U, is a fault.
-- A negative L is, as a number of its bits, more than any U that the ceilings allow
unfoldable pub packing_of : ℕ → ℕ → Packing
packing_of l u = pick (eqb l 0) Fault (pick (eqb l u) Uncompressed (pick (leb l u) Compressed Fault))

-- document 01, 'Finding a cell': where a cell starts in its element's uncompressed content, by its number inside the tile
unfoldable pub cell_offset : ℕ → ℕ → ℕ
cell_offset kind inside = inside * cell_size kind

-- L bytes behind a length of four, with 0 to 3 bytes that bring L to a multiple of 4
unfoldable pub stored_size : ℕ → ℕ
stored_size l = 4 + round_up 4 l

-- the least multiple of 8 that holds so many bytes of a record and its checksum
unfoldable pub least_length : ℕ → ℕ
least_length n = round_up 8 (n + 4)

-- a tile record's length, of n elements whose lengths L are given: eight bytes of record header and four of tile index
-- (G Table 15), each element's length and bytes, and the checksum
unfoldable pub tile_length : ℕ → (ℕ → ℕ) → ℕ
tile_length n l = least_length (12 + sum_below n (λ e. stored_size (l e)))

-- a bound above every length of four bytes and above the ceiling: where a function answers U, it answers this if U is more
abbrev pub cap : ℕ
cap = 4294967296

-- U of a file's element
unfoldable pub element_bytes : List ℕ → ℕ → ℕ
element_bytes s e = uncompressed (tile_rows s) (tile_columns s) (element s e).kind

-- a length L against U of a file's element
unfoldable pub element_packing : List ℕ → ℕ → ℕ → Packing
element_packing s e l = packing_of l (element_bytes s e)

-- document 01, 'House ceilings': the uncompressed bytes of one tile, all elements together; at most the first 16 are read
unfoldable pub tile_bytes : List ℕ → ℕ
tile_bytes s = sum_below (entries_read s) (element_bytes s)

-- document 01, 'Laying down a page': the length of a tile record whose elements are all uncompressed
unfoldable pub plain_tile_length : List ℕ → ℕ
plain_tile_length s = tile_length (entries_read s) (element_bytes s)
