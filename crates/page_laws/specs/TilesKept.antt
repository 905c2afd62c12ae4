-- Req 03, of stage 9: the tile directory's rules name places, and depend on the tile records and on the directory alone.
use Rattle.std.specs.Prelude.{ℕ, ◌≡◌, true, length}
use mathlib.Core.List.{List, ◌++◌, Memᴰ}
use Rattle.record.specs.Types.{tile_type, tile_directory_type}
use Rattle.record.specs.Chain.{records_of, joined, WellFormed}
use Rattle.header.specs.Fields.{tile_directory_reference}
use Rattle.bodies.specs.TileRecord.{tile_index}
use Rattle.check_header.specs.Judged.{SameJudged}
use Rattle.check_directory.specs.TileRules.{tile_directory_right}
use Rattle.pieces.specs.Standing.{standing}
use Rattle.writable.specs.Writable.{directory_full}
use Rattle.alone.specs.Alone.{SameRecord, Front}

-- two files with tile records of the same index and the same tile directories at the same places, whose headers agree in what is judged
pub record SameTileRecords (s t : List ℕ) : Type 0 where
  pub judged : SameJudged s t
  pub reference : tile_directory_reference s ≡ tile_directory_reference t
  pub records : records_of s tile_type ≡ records_of t tile_type
  pub directories : records_of s tile_directory_type ≡ records_of t tile_directory_type
  pub index : (x : ℕ) → Memᴰ x (records_of s tile_type) → tile_index s x ≡ tile_index t x
  pub directory_same : (x : ℕ) → Memᴰ x (records_of s tile_directory_type) → SameRecord s x t x

-- a full directory that is right in one is so in the other
abbrev pub TilesKept : Type 0
TilesKept =
    (s t : List ℕ) → SameTileRecords s t → tile_directory_right s ≡ true → directory_full s ≡ true →
    (tile_directory_right t ≡ true) × (directory_full t ≡ true)

-- the same of two pages by their fronts and pieces
pub record TilesStand (f : List ℕ) (rs : List (List ℕ)) (g : List ℕ) (qs : List (List ℕ)) : Type 0 where
  pub first : Front f
  pub second : Front g
  pub judged : SameJudged f g
  pub reference : tile_directory_reference f ≡ tile_directory_reference g
  pub formed : WellFormed rs
  pub formed_too : WellFormed qs
  pub records : standing tile_type (length f) rs ≡ standing tile_type (length g) qs
  pub directories : standing tile_directory_type (length f) rs ≡ standing tile_directory_type (length g) qs

abbrev pub TilesStandKept : Type 0
TilesStandKept =
    (f : List ℕ) (rs : List (List ℕ)) (g : List ℕ) (qs : List (List ℕ)) → TilesStand f rs g qs → tile_directory_right (f ++ joined rs) ≡ true →
    directory_full (f ++ joined rs) ≡ true → (tile_directory_right (g ++ joined qs) ≡ true) × (directory_full (g ++ joined qs) ≡ true)
