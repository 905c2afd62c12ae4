-- Req 03: a page that is open for writing is so after a tile was stored or removed, and its tiles are those of the map.
use Rattle.std.specs.Prelude.{ℕ, ◌+◌, ◌-◌, ◌≤◌, ◌<◌, ◌≡◌, List, [], ◌⊎◌, true, length, eqb, Some}
use Rattle.wire.specs.Pick.{pick}
use Rattle.wire.specs.Bytes.{Bytes, byte_at, Same}
use Rattle.record.specs.Record.{length_at}
use Rattle.record.specs.Chain.{header_end}
use Rattle.header.specs.Fields.{element_count}
use Rattle.geometry.specs.Tiles.{tile_count}
use Rattle.geometry.specs.Sizes.{element_bytes, tile_bytes}
use Rattle.bodies.specs.TileRecord.{element_content_at}
use Rattle.check_header.specs.Ceilings.{most_file_bytes}
use Rattle.writable.specs.Writable.{Open}
use Rattle.correct.specs.Storing.{tile_at, stored_over, stored_page, plain_contents}
use Rattle.correct.specs.Removing.{removed_page}
use Rattle.page_laws.specs.Tiles.{tiles_of, Follows, InPlace}

-- a tile of the grid, cell bytes of one tile, and the page does not pass the ceiling
pub record Stores (s : List ℕ) (i : ℕ) (c : List ℕ) : Type 0 where
  pub bytes : Bytes s
  pub cells : Bytes c
  pub open_page_lem : Open s
  pub below : i < tile_count s
  pub long : length c ≡ tile_bytes s
  pub room : length (stored_page s i c) ≤ most_file_bytes

-- place k is none of the cell bytes of the plain tile record at x, nor of its checksum
pub record Beside (s : List ℕ) (x k : ℕ) : Type 0 where
  pub cells : (e : ℕ) → e < element_count s → (k < element_content_at s x e) ⊎ (element_content_at s x e + element_bytes s e ≤ k)
  pub checksum : (k < x + (length_at s x - 4)) ⊎ (x + length_at s x ≤ k)

pub record StoredKeeps (s : List ℕ) (i : ℕ) (c : List ℕ) : Type 0 where
  pub open_page_lem : Open (stored_page s i c)
  pub follows : Follows s (stored_page s i c) (λ j. eqb j i) (λ j. pick (eqb j i) (plain_contents s c) (tiles_of s j))
  pub places : InPlace s (stored_page s i c) (λ j. eqb j i)
  -- Req 03, reading 16: the header is as it was, whole
  pub front : Same s (stored_page s i c) 0 (header_end s)
  -- Req 03, reading 10: stored over, the page is as long as it was, and each byte beside the record's cell bytes and checksum is as it
  -- was
  pub over_long : stored_over s i ≡ true → length (stored_page s i c) ≡ length s
  pub over_beside : stored_over s i ≡ true → (x : ℕ) → tile_at s i ≡ Some x → (k : ℕ) → Beside s x k → byte_at (stored_page s i c) k ≡ byte_at s k

abbrev pub StoredOpen : Type 0
StoredOpen = (s : List ℕ) (i : ℕ) (c : List ℕ) → Stores s i c → StoredKeeps s i c

pub record RemovedKeeps (s : List ℕ) (i : ℕ) : Type 0 where
  pub open_page_lem : Open (removed_page s i)
  pub follows : Follows s (removed_page s i) (λ j. eqb j i) (λ j. pick (eqb j i) [] (tiles_of s j))
  pub places : InPlace s (removed_page s i) (λ j. eqb j i)
  pub front : Same s (removed_page s i) 0 (header_end s)
  -- Req 03, reading 5: the page is as long as it was
  pub long : length (removed_page s i) ≡ length s
  -- "removing an absent tile .. changes nothing"
  pub absent : tiles_of s i ≡ [] → removed_page s i ≡ s

abbrev pub RemovedOpen : Type 0
RemovedOpen = (s : List ℕ) (i : ℕ) → Bytes s → Open s → i < tile_count s → RemovedKeeps s i
