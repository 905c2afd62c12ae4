-- Req 03, storing: "A stored uncompressed tile is overwritten, cell bytes and checksum only; one with a compressed element is freed
-- first. A new record, its reserved fields and padding zero, takes the start of the lowest free record of its length or at least 16
-- more, else the end". s is the page, i the tile's index, c its cell bytes: all elements in order, no lengths, no padding (Req 03,
-- reading 14).
use Rattle.std.specs.Prelude.{ℕ, zero, suc, ◌+◌, ◌<◌, max, ◌≡◌, List, ◌++◌, map, Bool, true, false, length, take, eqb, None, Option, Some}
use Rattle.wire.specs.Pick.{pick}
use Rattle.wire.specs.Tests.{all_below, sum_below}
use Rattle.wire.specs.Bytes.{part, put}
use Rattle.wire.specs.Lists.{below}
use Rattle.record.specs.Record.{content_at}
use Rattle.record.specs.Chain.{header_end, joined}
use Rattle.header.specs.Fields.{checksum_enabled, element_count}
use Rattle.geometry.specs.Tiles.{tile_count}
use Rattle.geometry.specs.Sizes.{element_bytes, plain_tile_length}
use Rattle.bodies.specs.TileRecord.{section_length, element_content_at}
use Rattle.bodies.specs.TileDirectory.{tile_directory_at}
use Rattle.tile_routes.specs.Ways.{carries, referred_to, walked_to}
use Rattle.written_records.specs.Tile.{tile_record}
use Rattle.pieces.specs.Pieces.{pieces, freeing}
use Rattle.pieces.specs.Edits.{place_for, placed, resealed, with_reference}
use Rattle.writable.specs.Writable.{open_for_writing}

-- the tile's record; a page that is open for writing has one at most
unfoldable pub tile_at : List ℕ → ℕ → Option ℕ
tile_at s i = walked_to s (header_end s) i

-- the same by the tile directory, as storing and removing find it: what the reference gives, if that is a tile record with the index. On a
-- page that is open for writing it is the record that the walk finds, on other bytes it may be none
abbrev pub carrying : List ℕ → ℕ → Option ℕ → Option ℕ
carrying s i None = None
carrying s i (Some x) = pick (carries s i x) (Some x) None

unfoldable pub tile_referred : List ℕ → ℕ → Option ℕ
tile_referred s i = carrying s i (referred_to s (tile_directory_at s) i)

abbrev pub ReferredIsWalked : Type 0
ReferredIsWalked = (s : List ℕ) → open_for_writing s ≡ true → (i : ℕ) → i < tile_count s → tile_referred s i ≡ tile_at s i

-- all elements of the tile record at x are uncompressed
unfoldable pub is_plain : List ℕ → ℕ → Bool
is_plain s x = all_below (element_count s) (λ e. eqb (section_length s x e) (element_bytes s e))

-- Req 03, reading 10: the tile is stored over where it has a record and that one is plain
abbrev pub plain_in : List ℕ → Option ℕ → Bool
plain_in s None = false
plain_in s (Some x) = is_plain s x

unfoldable pub stored_over : List ℕ → ℕ → Bool
stored_over s i = plain_in s (tile_referred s i)

-- the cell bytes of the first n elements put where these stand in the tile record r
unfoldable pub cells_put : List ℕ → List ℕ → ℕ → List ℕ → List ℕ
cells_put s c zero r = r
cells_put s c (suc e) r = put (cells_put s c e r) (element_content_at r 0 e) (part c (sum_below e (element_bytes s)) (element_bytes s e))

-- Req 03, reading 10: cell bytes and the checksum change, nothing else
unfoldable pub overwritten : List ℕ → ℕ → List ℕ → List ℕ → List ℕ
overwritten s i c r = pick (carries r i 0) (resealed (checksum_enabled s) (cells_put s c (element_count s) r)) r

-- Req 03, reading 11: the page's pieces with the tile's record freed and joined, if it has one
unfoldable pub freed_of : List ℕ → ℕ → List (List ℕ)
freed_of s i = freeing (checksum_enabled s) (λ r. carries r i 0) (pieces s)

-- Req 03, readings 11 and 12: where the new record goes then
unfoldable pub stored_at : List ℕ → ℕ → ℕ
stored_at s i = place_for (header_end s) (plain_tile_length s) (freed_of s i)

-- the pieces with the new record there, and the directory's reference to it
unfoldable pub newly_stored : List ℕ → ℕ → List ℕ → List (List ℕ)
newly_stored s i c = map (with_reference s i (content_at (stored_at s i))) (placed (checksum_enabled s) (tile_record s i c) (freed_of s i))

unfoldable pub stored_pieces : List ℕ → ℕ → List ℕ → List (List ℕ)
stored_pieces s i c = pick (stored_over s i) (map (overwritten s i c) (pieces s)) (newly_stored s i c)

-- Req 03, reading 16: the front stays
unfoldable pub stored_page : List ℕ → ℕ → List ℕ → List ℕ
stored_page s i c = take (header_end s) s ++ joined (stored_pieces s i c)

-- Req 03, readings 3, 5 and 10: stored over, or put into a free record, the page is as long as it was; else it ends with the new record
unfoldable pub stored_length : List ℕ → ℕ → ℕ
stored_length s i = pick (stored_over s i) (length s) (max (length s) (stored_at s i + plain_tile_length s))

-- what the tile then holds: the content of each element
unfoldable pub plain_contents : List ℕ → List ℕ → List (List ℕ)
plain_contents s c = map (λ e. part c (sum_below e (element_bytes s)) (element_bytes s e)) (below (element_count s))
