-- The stored tiles, ascending by index: where each one's record starts, which of its elements are packed, and by what.
use Rattle.std.specs.Prelude.{ℕ, zero, suc, ◌-◌, ◌*◌, ◌/◌, ◌%◌, ◌<◌, ◌≡◌, Bool, true, not, length, get_or, eqb, None, Ok, Option, Some}
use mathlib.Core.List.{List, [], ◌∷◌, Memᴰ}
use Rattle.wire.specs.Pick.{pick}
use Rattle.wire.specs.Tests.{◌≢?◌, is, passes, sum_below}
use Rattle.wire.specs.Bytes.{Bytes, byte_at}
use Rattle.wire.specs.Lists.{select, below, one_if}
use Rattle.answer.specs.Answers.{cell_kind}
use Rattle.record.specs.Types.{tile_type}
use Rattle.record.specs.Chain.{find, records_of}
use Rattle.header.specs.Element.{element, float_kind, entries_read}
use Rattle.geometry.specs.Tiles.{tile_count, cell_tile}
use Rattle.bodies.specs.TileRecord.{tile_index, element_content_at}
use Rattle.bodies.specs.TileDirectory.{tile_reference}
use Rattle.page_check.specs.Stages.{check}
use Rattle.cells.specs.Asked.{in_grid}
use Rattle.cells.specs.TileCells.{packed, unpackable}
use Rattle.cells.specs.Meaning.{meaning}

-- a tile is stored where its reference is not zero (G 4.2.8)
unfoldable pub stored : List ℕ → ℕ → Bool
stored s i = not (eqb (tile_reference s i) 0)

unfoldable pub stored_tiles : List ℕ → List ℕ
stored_tiles s = select (stored s) (below (tile_count s))

-- its record starts 8 before the content that the reference gives (G 3.3.4)
unfoldable pub tile_record_at : List ℕ → ℕ → ℕ
tile_record_at s i = tile_reference s i - 8

-- a mask, bit e of which is 2 to the power of e
unfoldable pub bit : ℕ → ℕ
bit zero = 1
bit (suc e) = 2 * bit e

unfoldable pub bit_if : Bool → ℕ → ℕ
bit_if b n = pick b n 0

unfoldable pub mask_of : ℕ → (ℕ → Bool) → ℕ
mask_of n p = sum_below n (λ e. bit_if (p e) (bit e))

-- which elements the record at x has packed: L below U (document 01, stage 8). A page has at most 16 elements
unfoldable pub packed_mask : List ℕ → ℕ → ℕ
packed_mask s x = mask_of (entries_read s) (packed s x)

-- element e is packed there and no Float, which is never unpacked (Req 01)
unfoldable pub packed_coded : List ℕ → ℕ → ℕ → Bool
packed_coded s x e = passes (((element s e).kind ≢? float_kind) ∷ is (packed s x e) ∷ [])

unfoldable pub first_packed : List ℕ → ℕ → Option ℕ
first_packed s x = find (packed_coded s x) (below (entries_read s))

-- the compressor index of the first such: the first byte of its content (G 6); 256, which no content has, where there is none
abbrev pub index_of : List ℕ → ℕ → Option ℕ → ℕ
index_of s x (Some e) = byte_at s (element_content_at s x e)
index_of s x None = 256

unfoldable pub compressor_of : List ℕ → ℕ → ℕ
compressor_of s x = index_of s x (first_packed s x)

-- four numbers of tile i: its index, the start of its record, the mask and the compressor index
unfoldable pub tile_says : List ℕ → ℕ → List ℕ
tile_says s i = i ∷ tile_record_at s i ∷ packed_mask s (tile_record_at s i) ∷ compressor_of s (tile_record_at s i) ∷ []

-- what the list says of an accepted file: its tile records, one for one
pub record Tiled (s : List ℕ) : Type 0 where
  -- the indexes ascend, and are below the tile count
  pub ascend : (i k : ℕ) → i < k → k < length (stored_tiles s) → get_or (stored_tiles s) i 0 < get_or (stored_tiles s) k 0
  pub below_count : {i : ℕ} → Memᴰ i (stored_tiles s) → i < tile_count s
  -- each has the tile record with its index at the start that is said
  pub record_there : {i : ℕ} → Memᴰ i (stored_tiles s) → Memᴰ (tile_record_at s i) (records_of s tile_type) × (tile_index s (tile_record_at s i) ≡ i)
  -- every tile record is among them
  pub every : {x : ℕ} → Memᴰ x (records_of s tile_type) → Memᴰ (tile_index s x) (stored_tiles s) × (tile_record_at s (tile_index s x) ≡ x)
  -- and there are as many
  pub as_many : length (stored_tiles s) ≡ length (records_of s tile_type)

abbrev pub TilesSaid : Type 0
TilesSaid = (s : List ℕ) → check s ≡ Ok tt → Tiled s

-- bit e of a number, 1 where it is set
unfoldable pub bit_of : ℕ → ℕ → ℕ
bit_of zero n = n % 2
bit_of (suc e) n = bit_of e (n / 2)

-- what the mask and the index say of an accepted file, of a stored tile i
pub record PackedTile (s : List ℕ) (i : ℕ) : Type 0 where
  -- bit e is set exactly where a cell of that tile and element is 11 without an index
  pub told :
      (row column e : ℕ) → in_grid s row column e ≡ true → cell_tile s row column ≡ i →
      bit_of e (packed_mask s (tile_record_at s i)) ≡ one_if (eqb (cell_kind (meaning s 256 row column e)) 11)
  -- the index that is said is one by which the first packed element that is no Float can be unpacked
  pub named : (e : ℕ) → first_packed s (tile_record_at s i) ≡ Some e → unpackable s (compressor_of s (tile_record_at s i)) (tile_record_at s i) e ≡ true

abbrev pub PackedSaid : Type 0
PackedSaid = (s : List ℕ) → Bytes s → check s ≡ Ok tt → (i : ℕ) → Memᴰ i (stored_tiles s) → PackedTile s i
