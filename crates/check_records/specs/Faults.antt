-- Document 01, stages 6 to 8: the start of the first record that fails.
use Rattle.std.specs.Prelude.{ℕ, ◌<◌, ◌≡◌, List, ◌∷◌, Bool, true, false, length, leb, eqb, None, Option, Some}
use Rattle.wire.specs.Pick.{pick}
use Rattle.record.specs.Record.{type_at, record_ok}
use Rattle.record.specs.Chain.{header_end, records, records_end, find_not, Stand}
use Rattle.record.specs.Types.{metadata_type, tile_type}
use Rattle.check_records.specs.declared.Rule.{Rule}
use Rattle.check_records.specs.declared.Rule.TheVariants.{Checksum, Body}
use Rattle.check_records.specs.Checksum.{checksum_right}
use Rattle.check_records.specs.TileBody.{tile_right}
use Rattle.check_records.specs.MetadataBody.{metadata_right}

-- stage 6: the records end before the file does
unfoldable pub chain_fault : List ℕ → Option ℕ
chain_fault s = pick (leb (length s) (records_end s)) None (Some (records_end s))

-- that is: records stand from the header's end up to x without a gap, and what stands there is none
pub record BrokenAt (s : List ℕ) (x : ℕ) : Type 0 where
  pub before : List ℕ
  pub stand : Stand s (header_end s) before x
  pub inside : x < length s
  pub bad : record_ok s x ≡ false

abbrev pub ChainFaultExactly : Type 0
ChainFaultExactly = (s : List ℕ) (x : ℕ) → (chain_fault s ≡ Some x → BrokenAt s x) × (BrokenAt s x → chain_fault s ≡ Some x)

-- stage 8: the body of a tile or metadata record; no other record's body is judged there
unfoldable pub body_right : List ℕ → ℕ → Bool
body_right s at = pick (eqb (type_at s at) tile_type) (tile_right s at) (pick (eqb (type_at s at) metadata_type) (metadata_right s at) true)

-- what a record has to keep, by the stage
unfoldable pub right_of : List ℕ → Rule → ℕ → Bool
right_of s Checksum = checksum_right s
right_of s Body = body_right s

-- the first of some records that does not
unfoldable pub first_wrong : List ℕ → Rule → List ℕ → Option ℕ
first_wrong s rule xs = find_not (right_of s rule) xs

-- stage 7: the first record, the header included, whose checksum is at fault
unfoldable pub checksum_fault : List ℕ → Option ℕ
checksum_fault s = first_wrong s Checksum (16 ∷ records s)

-- stage 8: the first tile or metadata record whose body is at fault
unfoldable pub body_fault : List ℕ → Option ℕ
body_fault s = first_wrong s Body (records s)
