-- Document 01, stage 9: the metadata directory (G 4.2.7, Table 19), its entry (4.2.7.1, Table 20), the unique pair (4.2.4).
use Rattle.std.specs.Prelude.{ℕ, List, [], ◌∷◌, Bool, ◌||◌, eqb}
use Rattle.wire.specs.Tests.{◌≤?◌, ◌≡?◌, is, passes}
use Rattle.wire.specs.Bytes.{u64_at, largest_integer}
use Rattle.header.specs.Fields.{metadata_reference}
use Rattle.record.specs.Record.{content_at, padded}
use Rattle.bodies.specs.MetadataRecord.{data_type}
use Rattle.record.specs.Types.{metadata_type, metadata_directory_type}
use Rattle.check_directory.specs.References.{refers_or_zero, no_other}
use Rattle.bodies.specs.ListDirectories.{metadata_entry_at, metadata_count, metadata_at}
use Rattle.check_lists.specs.Listed.{listed_once, nothing_else}
use Rattle.metadata_keys.specs.Pairs.{keys_distinct, same_key}

-- the entry at p is that of the record at x: its content, name, record ID and type code
unfoldable pub metadata_entry_of : List ℕ → ℕ → ℕ → Bool
metadata_entry_of s x p = passes ((u64_at s p ≡? content_at x) ∷ is (same_key s p x) ∷ (data_type s p ≡? data_type s x) ∷ [])

unfoldable pub metadata_entry_is : List ℕ → ℕ → ℕ → Bool
metadata_entry_is s x k = metadata_entry_of s x (metadata_entry_at s k)

-- every metadata record is listed once; where the reference is zero there is no list, so there is no such record
unfoldable pub metadata_listed : List ℕ → Bool
metadata_listed s = listed_once s metadata_type (metadata_count s) (metadata_entry_is s)

-- and nothing else is
unfoldable pub metadata_only : List ℕ → Bool
metadata_only s = nothing_else s metadata_type (metadata_count s) (metadata_entry_is s)

-- the count, which is not negative, fits; the directory may be empty
unfoldable pub metadata_fits : List ℕ → Bool
metadata_fits s =
    eqb (metadata_reference s) 0
    || passes ((metadata_count s ≤? largest_integer) ∷ is (padded s (metadata_at s) (metadata_entry_at s (metadata_count s))) ∷ [])

unfoldable pub metadata_directory_right : List ℕ → Bool
metadata_directory_right s =
    passes
    (is (refers_or_zero s metadata_directory_type (metadata_reference s))
    ∷ is (no_other s metadata_directory_type (metadata_reference s)) ∷ is (metadata_fits s) ∷ is (metadata_listed s)
    ∷ is (metadata_only s) ∷ is (keys_distinct s) ∷ [])
