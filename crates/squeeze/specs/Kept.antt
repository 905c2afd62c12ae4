-- Req 11, reading 7: what is put for a kept record that starts at x of a buffer d. Its fields are read there.
use Rattle.std.specs.Prelude.{ℕ, ◌+◌, ◌*◌, ◌≤◌, ◌≡◌, List, true, false, length, eqb}
use Rattle.wire.specs.Pick.{pick}
use Rattle.wire.specs.Bytes.{u32_at}
use Rattle.record.specs.Types.{metadata_directory_type, tile_directory_type}
use Rattle.record.specs.Record.{length_at, type_at}
use Rattle.bodies.specs.TileDirectory.{standard_references, listed_rows, listed_columns}
use Rattle.pieces.specs.Pieces.{piece_at}
use Rattle.pieces.specs.Edits.{resealed}
use Rattle.squeeze.specs.Fields.{fields_put, FieldsFit}

-- G Table 21: the bytes of a reference of the tile directory, and how many there are
unfoldable pub width_at : List ℕ → ℕ → ℕ
width_at d x = pick (eqb (standard_references d x) 1) 8 4

unfoldable pub count_at : List ℕ → ℕ → ℕ
count_at d x = listed_rows d x * listed_columns d x

unfoldable pub tiles_put : ℕ → (ℕ → ℕ) → List ℕ → ℕ → List ℕ
tiles_put flag named d x = resealed flag (fields_put named d x (length_at d x) 32 false (width_at d x) (count_at d x))

-- G Tables 19 and 20: the metadata directory
unfoldable pub metadata_put : ℕ → (ℕ → ℕ) → List ℕ → ℕ → List ℕ
metadata_put flag named d x = resealed flag (fields_put named d x (length_at d x) 12 true 8 (u32_at d (x + 8)))

-- "kept records unchanged but for references and checksums"
unfoldable pub kept_put : ℕ → (ℕ → ℕ) → List ℕ → ℕ → List ℕ
kept_put flag named d x =
    pick (eqb (type_at d x) tile_directory_type) (tiles_put flag named d x)
    (pick (eqb (type_at d x) metadata_directory_type) (metadata_put flag named d x) (piece_at d x))

-- it lies in d, and its references lie in it
abbrev pub TilesFit : List ℕ → ℕ → Type 0
TilesFit d x = FieldsFit d x (length_at d x) 32 false (width_at d x) (count_at d x)

abbrev pub MetadataFit : List ℕ → ℕ → Type 0
MetadataFit d x = FieldsFit d x (length_at d x) 12 true 8 (u32_at d (x + 8))

pub record KeptFits (d : List ℕ) (x : ℕ) : Type 0 where
  pub inside : x + length_at d x ≤ length d
  pub tiles : type_at d x ≡ tile_directory_type → TilesFit d x
  pub metadata : type_at d x ≡ metadata_directory_type → MetadataFit d x
