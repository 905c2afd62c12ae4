-- Document 01, stage 9: no two metadata records have the same pair of name and ID (G 4.2.4).
use Rattle.std.specs.Prelude.{ℕ, List, [], ◌∷◌, Bool, ◌||◌, not, eqb}
use Rattle.wire.specs.Tests.{◌≡?◌, is, passes}
use Rattle.wire.specs.Bytes.{same_bytes}
use Rattle.bodies.specs.MetadataRecord.{metadata_name, record_id}
use Rattle.record.specs.Chain.{records_of}
use Rattle.record.specs.Types.{metadata_type}
use Rattle.wire.specs.Lists.{every}

-- two have the same pair of name and ID. Table 20's entry has a position of eight bytes, then the name, the ID and the type code
-- as Table 14's record has them behind its eight bytes of record header; so one reading serves both
unfoldable pub same_key : List ℕ → ℕ → ℕ → Bool
same_key s x y = passes (is (same_bytes (metadata_name s x) (metadata_name s y)) ∷ (record_id s x ≡? record_id s y) ∷ [])

-- no two records have the same pair: of each, it alone has its own
unfoldable pub keys_distinct : List ℕ → Bool
keys_distinct s = every (λ x. every (λ y. eqb x y || not (same_key s x y)) (records_of s metadata_type)) (records_of s metadata_type)
