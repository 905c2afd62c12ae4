-- Document 01, stages 6 to 8, as rows. `k` is a record's number in the chain, the header not counted; of stage 7 the header is 0 and the
-- record behind it 1.
use Rattle.std.specs.Prelude.{ℕ, ◌+◌, ◌-◌, ◌≤◌, min, List, [], ◌∷◌, ◌++◌, length, leb, eqb}
use Rattle.wire.specs.Pick.{pick}
use Rattle.wire.specs.Tests.{◌≤?◌}
use Rattle.wire.specs.Bytes.{u16_at, largest_integer}
use Rattle.answer.specs.declared.Refusal.{Refusal}
use Rattle.record.specs.Record.{length_at, type_at, record_limit, Told}
use Rattle.record.specs.Chain.{records, records_end}
use Rattle.record.specs.Types.{metadata_type, tile_type, tile_directory_type}
use Rattle.header.specs.Names.{identifier, longest_name}
use Rattle.header.specs.Fields.{element_count}
use Rattle.geometry.specs.Tiles.{tile_count}
use Rattle.geometry.specs.Sizes.{element_bytes, least_length, cap}
use Rattle.bodies.specs.TileRecord.{section_at, section_length, tile_index, tile_end}
use Rattle.bodies.specs.MetadataRecord.{content_length_at, record_id_at, metadata_length, metadata_description_at, metadata_end, metadata_name, data_type}
use Rattle.check_records.specs.Checksum.{checksum_at, checksum_of}
use Rattle.reasons.specs.Rows.{Row, fault_of, at_most, at_least, equal, eighths, holds, rows_below}
use Rattle.reasons.specs.Stages.{Stage, stage}
use Rattle.reasons.specs.HeadRows.{text_row}

-- a type and a length are those of the record at `at`, the header or one that a cursor's step hands on, and it does not end further
-- behind the file than a header can
pub record Stands (s : List ℕ) (kind at long : ℕ) : Type 0 where
  pub told : Told s kind at long
  pub near : at + long ≤ length s + 16 + cap

-- stage 6: the length and the type of what stands where the records end, if the file does not end there
unfoldable pub extent_rows : List ℕ → ℕ → ℕ → List Row
extent_rows s k at =
    at_least 33 k at (length_at s at) 16
    ∷ at_most 34 k at (length_at s at) largest_integer
    ∷ eighths 35 k at (length_at s at)
    ∷ at_most 36 k at (at + length_at s at) (length s)
    ∷ []

unfoldable pub type_rows : List ℕ → ℕ → ℕ → List Row
type_rows s k at = at_most 37 k (at + 4) (type_at s at) tile_directory_type ∷ []

unfoldable pub record_rows : List ℕ → ℕ → ℕ → List Row
record_rows s k at = extent_rows s k at ++ type_rows s k at

unfoldable pub chain_rows : List ℕ → List Row
chain_rows s = pick (leb (length s) (records_end s)) [] (record_rows s (length (records s)) (records_end s))

-- stage 7
unfoldable pub checksum_rows : List ℕ → ℕ → ℕ → List Row
checksum_rows s k x = equal 38 k (x + (length_at s x - 4)) (checksum_at s x) (checksum_of s x) ∷ []

-- stage 8: the fields end before the checksum, and the length is the least
unfoldable pub ending_rows : List ℕ → ℕ → ℕ → ℕ → List Row
ending_rows s k at end = at_most 41 k at end (record_limit s at) ∷ equal 42 k at (length_at s at) (least_length (end - at)) ∷ []

-- the length L of element e, from 1 to U; U is held under `cap`
unfoldable pub section_rows : List ℕ → ℕ → ℕ → List Row
section_rows s at e =
    at_least 43 e (section_at s at e) (section_length s at e) 1
    ∷ record {
      fault = fault_of 44 e (section_at s at e) (section_length s at e) (min (element_bytes s e) cap);
      rule = section_length s at e ≤? element_bytes s e;
    }
    ∷ []

unfoldable pub tile_body_rows : List ℕ → ℕ → ℕ → List Row
tile_body_rows s k at =
    at_most 39 k (at + 8) (tile_index s at) largest_integer
    ∷ at_most 40 k (at + 8) (tile_index s at + 1) (tile_count s)
    ∷ (ending_rows s k at (tile_end s at) ++ rows_below (element_count s) (section_rows s at))

-- the name, the data type and the description of a metadata record
unfoldable pub described_rows : List ℕ → ℕ → ℕ → List Row
described_rows s k at =
    holds 46 k (at + 10) (u16_at s (at + 8)) longest_name (identifier longest_name (metadata_name s at))
    ∷ at_most 47 k (record_id_at s at + 4) (data_type s at) 9
    ∷ text_row s 48 k (metadata_description_at s at)
    ∷ []

unfoldable pub metadata_body_rows : List ℕ → ℕ → ℕ → List Row
metadata_body_rows s k at =
    at_most 45 k (content_length_at s at) (metadata_length s at) largest_integer
    ∷ (ending_rows s k at (metadata_end s at) ++ described_rows s k at)

unfoldable pub body_rows : List ℕ → ℕ → ℕ → List Row
body_rows s k x =
    pick (eqb (type_at s x) tile_type) (tile_body_rows s k x) (pick (eqb (type_at s x) metadata_type) (metadata_body_rows s k x) [])

-- a stage of each record
unfoldable pub stages_of : (ℕ → Refusal) → (ℕ → ℕ → List Row) → ℕ → List ℕ → List Stage
stages_of refusal rows k [] = []
stages_of refusal rows k (x ∷ xs) = stage (refusal x) (rows k x) ∷ stages_of refusal rows (k + 1) xs
