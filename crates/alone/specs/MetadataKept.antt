-- Req 03, of stage 9: the metadata rules name places, and depend on the metadata records and on their directory alone.
use Rattle.std.specs.Prelude.{ℕ, ◌≡◌, true}
use mathlib.Core.List.{List, Memᴰ}
use Rattle.record.specs.Types.{metadata_type, metadata_directory_type}
use Rattle.record.specs.Chain.{records_of}
use Rattle.header.specs.Fields.{metadata_reference}
use Rattle.check_records.specs.MetadataBody.{metadata_right}
use Rattle.check_lists.specs.Metadata.{metadata_directory_right}
use Rattle.alone.specs.Alone.{SameRecord}

-- two files with the same metadata records and metadata directories at the same places; the records are right by stage 8
pub record SameMetadataRecords (s t : List ℕ) : Type 0 where
  pub reference : metadata_reference s ≡ metadata_reference t
  pub records : records_of s metadata_type ≡ records_of t metadata_type
  pub directories : records_of s metadata_directory_type ≡ records_of t metadata_directory_type
  pub record_same : (x : ℕ) → Memᴰ x (records_of s metadata_type) → SameRecord s x t x
  pub record_right : (x : ℕ) → Memᴰ x (records_of s metadata_type) → metadata_right s x ≡ true
  pub directory_same : (x : ℕ) → Memᴰ x (records_of s metadata_directory_type) → SameRecord s x t x

abbrev pub MetadataKept : Type 0
MetadataKept = (s t : List ℕ) → SameMetadataRecords s t → metadata_directory_right s ≡ metadata_directory_right t
