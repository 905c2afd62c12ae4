-- Document 01, 'Finding a cell': what a tile record says of a cell or of an element's content, and what is said where the tile has none.
use Rattle.std.specs.Prelude.{ℕ, ◌+◌, ◌-◌, ◌*◌, ◌≡◌, List, [], ◌∷◌, map, Bool, false, Option, Some, None, eqb, Err, Ok, Result}
use Rattle.answer.specs.declared.Extent.{Extent}
use Rattle.answer.specs.declared.Refusal.{Refusal}
use Rattle.wire.specs.Pick.{pick}
use Rattle.wire.specs.Tests.{◌≤?◌, ◌≡?◌, ◌≢?◌, is, passes}
use Rattle.wire.specs.Lists.{below}
use Rattle.wire.specs.Bytes.{byte_at, part, u32_at, number_at}
use Rattle.answer.specs.declared.Refusal.TheVariants as refusal
use Rattle.answer.specs.declared.Location.{Location}
use Rattle.answer.specs.declared.Cell.{Cell}
use Rattle.answer.specs.declared.Cell.TheVariants as cell
use Rattle.answer.specs.declared.Held.{Held}
use Rattle.answer.specs.declared.Held.TheVariants as held
use Rattle.answer.specs.Values.{value_of}
use Rattle.header.specs.Fields.{tile_rows, tile_columns}
use Rattle.header.specs.Element.{float_kind, short_kind, cell_size, element}
use Rattle.geometry.specs.Tiles.{cell_tile, cell_inside}
use Rattle.geometry.specs.Sizes.{cell_offset, element_bytes}
use Rattle.bodies.specs.TileRecord.{section_length, element_content_at}
use Rattle.unpack.specs.Unpack.{Cells, unpacked, cell_at, cells_in, is_whole}

-- Req 10: where a cell lies: "the tile index and the number inside the tile", by its row and column, never from a record
unfoldable pub location_of : List ℕ → ℕ → ℕ → Location
location_of s row column = record { tile = cell_tile s row column; inside = cell_inside s row column }

-- a cell of an absent tile: the element's fill, as it stands
unfoldable pub fill_of : List ℕ → Location → ℕ → Result Cell Refusal
fill_of s w e = Ok (cell.Fill (value_of (element s e).kind (element s e).fill) w)

-- The content of element e by its bytes, l bytes of b from `from` on: b is a file, or what a map from tiles to bytes gives for the element
-- (`corrected`).

-- it is compressed: its L is below U
abbrev pub is_packed : List ℕ → ℕ → ℕ → Bool
is_packed s e l = passes ((l + 1 ≤? element_bytes s e) ∷ [])

-- else a cell starts in it at its number inside the tile times the cell size
unfoldable pub offset_in : List ℕ → ℕ → ℕ → ℕ → ℕ
offset_in s row column e = cell_offset (element s e).kind (cell_inside s row column)

-- the value that the bytes there give, 2 for Short, else 4; in the file they stand at `place`
abbrev pub stored_for : ℕ → Location → List ℕ → ℕ → ℕ → Result Cell Refusal
stored_for kind w b from place = Ok (cell.Stored (value_of kind (number_at (cell_size kind) b from)) place w)

-- Req 01: the caller names the compressor index `ci`. A compressed content is unpacked where its first byte, the compressor index
-- (G 6), is that one, and the element is no Float
abbrev pub can_unpack : List ℕ → ℕ → ℕ → ℕ → Bool
can_unpack s ci e first = passes ((ci ≤? 255) ∷ (first ≡? ci) ∷ ((element s e).kind ≢? float_kind) ∷ [])

-- what all its bytes c hold
abbrev pub unpacked_for : List ℕ → ℕ → List ℕ → Cells
unpacked_for s e c = unpacked c (tile_rows s) (tile_columns s) (eqb (element s e).kind short_kind)

-- the cell that comes out, whose place is the start of its element's content; malformed content is 14 at the record's start
abbrev pub unpacked_cell : Location → ℕ → ℕ → ℕ → Option ℕ → Result Cell Refusal
unpacked_cell w kind x place (Some bits) = Ok (cell.Unpacked (value_of kind bits) place w)
unpacked_cell w kind x place None = Err (refusal.Malformed x)

-- any other index, or a Float element, 'is still 11', at the record's start
abbrev pub packed_for : List ℕ → ℕ → List ℕ → ℕ → ℕ → ℕ → ℕ → ℕ → ℕ → ℕ → Result Cell Refusal
packed_for s ci b from l x place row column e =
    pick (can_unpack s ci e (byte_at b from))
    (unpacked_cell (location_of s row column) (element s e).kind x place (cell_at (unpacked_for s e (part b from l)) (cell_inside s row column)))
    (Err (refusal.Compressed x))

-- what an element's content says of a cell, where it stands at `place` in a tile record that starts at x: compressed as above, else the
-- cell is stored, even if its bits are the fill's
unfoldable pub cell_from : List ℕ → ℕ → List ℕ → ℕ → ℕ → ℕ → ℕ → ℕ → ℕ → ℕ → Result Cell Refusal
cell_from s ci b from l x place row column e =
    pick (is_packed s e l)
    (packed_for s ci b from l x place row column e)
    (stored_for (element s e).kind (location_of s row column) b (from + offset_in s row column e) (place + offset_in s row column e))

-- The same of the tile record at x: the content of element e is the L bytes behind their length.

unfoldable pub packed : List ℕ → ℕ → ℕ → Bool
packed s x e = is_packed s e (section_length s x e)

unfoldable pub place_in : List ℕ → ℕ → ℕ → ℕ → ℕ → ℕ
place_in s x row column e = element_content_at s x e + offset_in s row column e

unfoldable pub stored_at : List ℕ → Location → ℕ → ℕ → Result Cell Refusal
stored_at s w e place = stored_for (element s e).kind w s place place

unfoldable pub unpackable : List ℕ → ℕ → ℕ → ℕ → Bool
unpackable s ci x e = can_unpack s ci e (byte_at s (element_content_at s x e))

unfoldable pub unpacked_in : List ℕ → ℕ → ℕ → Cells
unpacked_in s x e = unpacked_for s e (part s (element_content_at s x e) (section_length s x e))

unfoldable pub packed_cell : List ℕ → ℕ → ℕ → ℕ → ℕ → ℕ → Result Cell Refusal
packed_cell s ci x row column e =
    packed_for s ci s (element_content_at s x e) (section_length s x e) x (element_content_at s x e) row column e

unfoldable pub cell_in : List ℕ → ℕ → ℕ → ℕ → ℕ → ℕ → Result Cell Refusal
cell_in s ci x row column e =
    cell_from s ci s (element_content_at s x e) (section_length s x e) x (element_content_at s x e) row column e

-- the uncompressed content of element e there: its U bytes
unfoldable pub content_in : List ℕ → ℕ → ℕ → Result (Option Extent) Refusal
content_in s x e =
    pick (packed s x e) (Err (refusal.Compressed x)) (Ok (Some (record { start = element_content_at s x e; length = element_bytes s e })))

-- what a tile says of a cell: by its record where one was found, and else by the fill
abbrev pub cell_of : List ℕ → ℕ → ℕ → ℕ → ℕ → Option ℕ → Result Cell Refusal
cell_of s ci row column e None = fill_of s (location_of s row column) e
cell_of s ci row column e (Some x) = cell_in s ci x row column e

-- and of an element's content
abbrev pub content_of : List ℕ → ℕ → Option ℕ → Result (Option Extent) Refusal
content_of s e None = Ok None
content_of s e (Some x) = content_in s x e

-- what the compressed content at a place holds: its L bytes, which stand behind L
abbrev pub unpacked_at : List ℕ → ℕ → ℕ → Cells
unpacked_at s e place = unpacked_for s e (part s place (u32_at s (place - 4)))

-- Req 01: all cells of element e, as the tile record at x has them, and what is said where the tile has none
unfoldable pub held_in : List ℕ → ℕ → ℕ → ℕ → Result Held Refusal
held_in s ci x e =
    pick (packed s x e)
    (pick (unpackable s ci x e)
    (pick (is_whole (unpacked_in s x e)) (Ok (held.Unpacked (element_content_at s x e))) (Err (refusal.Malformed x)))
    (Err (refusal.Compressed x)))
    (Ok (held.Stored (element_content_at s x e)))

abbrev pub held_of : List ℕ → ℕ → ℕ → Option ℕ → Result Held Refusal
held_of s ci e None = Ok held.Absent
held_of s ci e (Some x) = held_in s ci x e

-- Req 07: a caller who goes on from cell to cell lends memory for the unpacked ones, `room` numbers. A compressed content of the caller's
-- index stays alone where the tile has more cells: it is not judged, and each cell is looked up by itself
unfoldable pub stays_alone : List ℕ → ℕ → ℕ → ℕ → ℕ → Bool
stays_alone s ci x e room = passes (is (packed s x e) ∷ is (unpackable s ci x e) ∷ (room + 1 ≤? tile_rows s * tile_columns s) ∷ [])

unfoldable pub held_room : List ℕ → ℕ → ℕ → ℕ → ℕ → Result Held Refusal
held_room s ci x e room = pick (stays_alone s ci x e room) (Ok held.Alone) (held_in s ci x e)

abbrev pub room_of : List ℕ → ℕ → ℕ → ℕ → Option ℕ → Result Held Refusal
room_of s ci e room None = Ok held.Absent
room_of s ci e room (Some x) = held_room s ci x e room

-- what the memory takes: the bits that a compressed content holds, row by row; nothing of what is stored
abbrev pub unpacked_bits : List ℕ → ℕ → Result Held Refusal → List ℕ
unpacked_bits s e (Ok (held.Stored at)) = []
unpacked_bits s e (Ok (held.Unpacked at)) = cells_in (unpacked_at s e at)
unpacked_bits s e (Ok held.Absent) = []
unpacked_bits s e (Ok held.Alone) = []
unpacked_bits s e (Err r) = []

-- and whether what it held counts where nothing is taken: a content is judged while its cells are written, so a memory that need not be kept
-- is free where the content is malformed, and there alone
abbrev pub MemorySaid : Bool → Result Held Refusal → Type 0
MemorySaid keep r = keep ≡ false → (x : ℕ) → r ≡ Err (refusal.Malformed x) → ⊥

-- the bits of all cells, row by row: those of the stored cells one behind the other, or those that the content holds
unfoldable pub stored_bits : List ℕ → ℕ → ℕ → ℕ → List ℕ
stored_bits s kind at n = map (λ i. number_at (cell_size kind) s (at + cell_offset kind i)) (below n)

abbrev pub held_bits : List ℕ → ℕ → Result Held Refusal → List ℕ
held_bits s e (Ok (held.Stored at)) = stored_bits s (element s e).kind at (tile_rows s * tile_columns s)
held_bits s e (Ok (held.Unpacked at)) = cells_in (unpacked_at s e at)
held_bits s e (Ok held.Absent) = []
held_bits s e (Ok held.Alone) = []
held_bits s e (Err r) = []

-- and how many there are
abbrev pub held_count : List ℕ → Result Held Refusal → ℕ
held_count s (Ok (held.Stored at)) = tile_rows s * tile_columns s
held_count s (Ok (held.Unpacked at)) = tile_rows s * tile_columns s
held_count s (Ok held.Absent) = 0
held_count s (Ok held.Alone) = 0
held_count s (Err r) = 0
