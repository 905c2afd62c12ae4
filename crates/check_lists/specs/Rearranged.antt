-- Document 01, stage 9, in plain words: the free list is a rearrangement of the free-space records, and the metadata list of the
-- metadata records. It is what `free_listed` and `free_only`, `metadata_listed` and `metadata_only` say.
use Rattle.std.specs.Prelude.{ℕ, ◌+◌, ◌≡◌, List, [], ◌∷◌, ◌++◌, map}
use Rattle.wire.specs.Bytes.{u32_at, u64_at}
use Rattle.wire.specs.Lists.{below}
use Rattle.record.specs.Record.{length_at, content_at}
use Rattle.bodies.specs.MetadataRecord.{metadata_name, record_id, data_type}
use Rattle.record.specs.Chain.{records_of}
use Rattle.record.specs.Types.{free_type, metadata_type}
use Rattle.bodies.specs.ListDirectories.{free_count, free_entry_at, metadata_count, metadata_entry_at}

-- stage 9: ys has the members of xs, each as often, in any order. The empty list's only rearrangement is itself; one of x ∷ xs has
-- x somewhere, and without that x it is one of xs
unfoldable pub Rearranged : {A : Type 0} → List A → List A → Type 0
Rearranged [] ys = ys ≡ []
Rearranged {A} (x ∷ xs) ys = (front : List A) × (back : List A) × (ys ≡ front ++ (x ∷ back)) × Rearranged xs (front ++ back)

-- stage 9, G Table 18: what each entry of the free list says, the start and the size of a record
unfoldable pub free_entry : List ℕ → ℕ → ℕ × ℕ
free_entry s k = (u64_at s (free_entry_at s k), u32_at s (free_entry_at s k + 8))

unfoldable pub free_entries : List ℕ → List (ℕ × ℕ)
free_entries s = map (free_entry s) (below (free_count s))

-- stage 9: the start and the size of each free-space record
unfoldable pub free_record : List ℕ → ℕ → ℕ × ℕ
free_record s x = (x, length_at s x)

unfoldable pub free_records : List ℕ → List (ℕ × ℕ)
free_records s = map (free_record s) (records_of s free_type)

-- stage 9: the free list is a rearrangement of the free-space records
unfoldable pub FreeRearranged : List ℕ → Type 0
FreeRearranged s = Rearranged (free_records s) (free_entries s)

-- stage 9, G Table 20: what the metadata list gives of a record: where its content starts, its name, its ID and its type code
pub record Described : Type 0 where
  pub content : ℕ
  pub name : List ℕ
  pub id : ℕ
  pub code : ℕ

-- each entry of the metadata list
unfoldable pub metadata_entry : List ℕ → ℕ → Described
metadata_entry s k =
    let p = metadata_entry_at s k in
    record { content = u64_at s p; name = metadata_name s p; id = record_id s p; code = data_type s p }

unfoldable pub metadata_entries : List ℕ → List Described
metadata_entries s = map (metadata_entry s) (below (metadata_count s))

-- stage 9, G Table 14: the same of each metadata record
unfoldable pub metadata_record : List ℕ → ℕ → Described
metadata_record s x = record { content = content_at x; name = metadata_name s x; id = record_id s x; code = data_type s x }

unfoldable pub metadata_records : List ℕ → List Described
metadata_records s = map (metadata_record s) (records_of s metadata_type)

-- stage 9: the metadata list is a rearrangement of the metadata records
unfoldable pub MetadataRearranged : List ℕ → Type 0
MetadataRearranged s = Rearranged (metadata_records s) (metadata_entries s)
