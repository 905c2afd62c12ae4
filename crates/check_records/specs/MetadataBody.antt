-- Document 01, stage 8; G Table 14: the body of a metadata record.
use Rattle.std.specs.Prelude.{ℕ, List, [], ◌∷◌, Bool}
use Rattle.wire.specs.Tests.{◌≤?◌, is, passes}
use Rattle.wire.specs.Bytes.{largest_integer}
use Rattle.header.specs.Names.{identifier, longest_name}
use Rattle.header.specs.Texts.{text_right}
use Rattle.bodies.specs.MetadataRecord.{metadata_length, metadata_description_at, metadata_end, metadata_name, data_type}
use Rattle.check_records.specs.Frame.{end_right}

-- the content length is not negative; the fields end right; the name is an identifier of at most 32 characters; the data type
-- is 0 to 9; the description is UTF-8 (Req 06)
unfoldable pub metadata_right : List ℕ → ℕ → Bool
metadata_right s at =
    passes
    ((metadata_length s at ≤? largest_integer) ∷ is (end_right s at (metadata_end s at))
    ∷ is (identifier longest_name (metadata_name s at)) ∷ (data_type s at ≤? 9) ∷ is (text_right s (metadata_description_at s at)) ∷ [])
