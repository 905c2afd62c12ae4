-- G Table 14: the fields of a metadata record.
use Rattle.std.specs.Prelude.{ℕ, ◌+◌, List, length, leb}
use Rattle.wire.specs.Pick.{pick}
use Rattle.wire.specs.Bytes.{byte_at, u16_at, u32_at, part}
use Rattle.header.specs.Element.{string_end}

-- the name, a string at 8
unfoldable pub metadata_name : List ℕ → ℕ → List ℕ
metadata_name s at = part s (at + 10) (u16_at s (at + 8))

-- behind it the record ID, four bytes, the data type, one, and the content length, four
unfoldable pub record_id_at : List ℕ → ℕ → ℕ
record_id_at s at = string_end s (at + 8)

unfoldable pub record_id : List ℕ → ℕ → ℕ
record_id s at = u32_at s (record_id_at s at)

unfoldable pub data_type : List ℕ → ℕ → ℕ
data_type s at = byte_at s (record_id_at s at + 4)

unfoldable pub content_length_at : List ℕ → ℕ → ℕ
content_length_at s at = record_id_at s at + 5

unfoldable pub metadata_length : List ℕ → ℕ → ℕ
metadata_length s at = u32_at s (content_length_at s at)

-- behind the content the description, a string
unfoldable pub metadata_description_at : List ℕ → ℕ → ℕ
metadata_description_at s at = content_length_at s at + 4 + metadata_length s at

unfoldable pub metadata_end : List ℕ → ℕ → ℕ
metadata_end s at = string_end s (metadata_description_at s at)

-- where the record ID stands, if `at` lies in the file; 0 where not
unfoldable pub record_id_start : List ℕ → ℕ → ℕ
record_id_start s at = pick (leb (length s) at) 0 (record_id_at s at)
