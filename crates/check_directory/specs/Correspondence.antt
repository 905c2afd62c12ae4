-- Document 01, stage 9, in plain words: tile records and references that are not zero correspond one to one. It is what
-- `tiles_listed` and `tiles_only` say where the rectangle ends inside the tile grid.
use Rattle.std.specs.Prelude.{ℕ, ◌<◌, ◌≡◌}
use mathlib.Core.List.{List, Memᴰ}
use Rattle.record.specs.Record.{content_at}
use Rattle.geometry.specs.Tiles.{tile_count}
use Rattle.bodies.specs.TileRecord.{tile_index}
use Rattle.record.specs.Chain.{records_of}
use Rattle.record.specs.Types.{tile_type}
use Rattle.bodies.specs.TileDirectory.{tile_reference}

-- a tile record with index i whose content the directory gives for it
pub record TileRecord (s : List ℕ) (i : ℕ) : Type 0 where
  pub start : ℕ
  pub among : Memᴰ start (records_of s tile_type)
  pub index : tile_index s start ≡ i
  pub content : content_at start ≡ tile_reference s i

pub record OneToOne (s : List ℕ) : Type 0 where
  -- each tile record has an index below the tile count, and the reference there is its content
  pub below : {x : ℕ} → Memᴰ x (records_of s tile_type) → tile_index s x < tile_count s
  pub listed : {x : ℕ} → Memᴰ x (records_of s tile_type) → tile_reference s (tile_index s x) ≡ content_at x
  -- each reference that is not zero is the content of a tile record with that index
  pub given : (i : ℕ) → i < tile_count s → (tile_reference s i ≡ 0 → ⊥) → TileRecord s i
  -- no two tile records have one index, and no two references one record
  pub one_record :
      {x y : ℕ} → Memᴰ x (records_of s tile_type) → Memᴰ y (records_of s tile_type) → tile_index s x ≡ tile_index s y → x ≡ y
  pub one_index :
      (i j : ℕ) → i < tile_count s → j < tile_count s → (tile_reference s i ≡ 0 → ⊥) → tile_reference s i ≡ tile_reference s j → i ≡ j
