-- G Table 14: the metadata records in file order, whatever the order of the metadata directory is, and the look-up of one by its name and
-- record ID.
use Rattle.std.specs.Prelude.{ℕ, ◌+◌, ◌<◌, ◌≡◌, List, [], ◌∷◌, Bool, length, get_or, eqb, Err, None, Ok, Option, Result, Some}
use Rattle.answer.specs.declared.Refusal.{Refusal}
use Rattle.wire.specs.Pick.{pick}
use Rattle.wire.specs.Tests.{◌≡?◌, is, passes}
use Rattle.wire.specs.Bytes.{u16_at, same_bytes}
use Rattle.answer.specs.Refusals.{unless_refused}
use Rattle.record.specs.Types.{metadata_type}
use Rattle.record.specs.Record.{type_at}
use Rattle.record.specs.Chain.{records_of}
use Rattle.bodies.specs.MetadataRecord.{metadata_name, record_id, data_type, content_length_at, metadata_length, metadata_description_at}
use Rattle.page_check.specs.Stages.{check}
use Rattle.store.specs.Lookup.{lookup_of}

-- the record at x is a metadata record
unfoldable pub is_metadata : List ℕ → ℕ → Bool
is_metadata s x = eqb (type_at s x) metadata_type

-- the starts of those of a file, in file order
unfoldable pub metadata_records : List ℕ → List ℕ
metadata_records s = records_of s metadata_type

-- nine numbers of the one at x: its start, the place and the length of its name, its record ID, its data type, the place and the length of
-- its content, and of its description. A place is just behind the length field
unfoldable pub metadata_says : List ℕ → ℕ → List ℕ
metadata_says s x =
    x ∷ (x + 10) ∷ u16_at s (x + 8) ∷ record_id s x ∷ data_type s x ∷ (content_length_at s x + 4) ∷ metadata_length s x
    ∷ (metadata_description_at s x + 2) ∷ u16_at s (metadata_description_at s x) ∷ []

-- it has the record ID and the name, byte for byte (G 3.6.1, rule 5: with case). The name asked for is any bytes
unfoldable pub has_key : List ℕ → List ℕ → ℕ → ℕ → Bool
has_key s name id x = passes ((record_id s x ≡? id) ∷ is (same_bytes (metadata_name s x) name) ∷ [])

-- the number of the first of xs of which a rule holds, where the first of all has the number k
unfoldable pub number_from : ℕ → (ℕ → Bool) → List ℕ → Option ℕ
number_from k p [] = None
number_from k p (x ∷ xs) = pick (p x) (Some k) (number_from (k + 1) p xs)

-- the number of the record with that key among the metadata records; an accepted file has no second (stage 9)
unfoldable pub metadata_number : List ℕ → List ℕ → ℕ → Option ℕ
metadata_number s name id = number_from 0 (has_key s name id) (metadata_records s)

-- behind the check; that there is none is no refusal
unfoldable pub read_metadata : List ℕ → List ℕ → ℕ → Result (Option ℕ) Refusal
read_metadata s name id = unless_refused Err (check s) (lookup_of (metadata_number s name id))

-- what the look-up says of an accepted file
pub record ByKey (s : List ℕ) : Type 0 where
  -- a number is that of a record with the name and ID
  pub number :
      (name : List ℕ) (id k : ℕ) → read_metadata s name id ≡ Ok (Some k) →
      (k < length (metadata_records s)) × ((metadata_name s (get_or (metadata_records s) k 0) ≡ name) × (record_id s (get_or (metadata_records s) k 0) ≡ id))
  -- and every record is found by its own
  pub found :
      (k : ℕ) → k < length (metadata_records s) →
      read_metadata s (metadata_name s (get_or (metadata_records s) k 0)) (record_id s (get_or (metadata_records s) k 0)) ≡ Ok (Some k)

abbrev pub MetadataSaid : Type 0
MetadataSaid = (s : List ℕ) → check s ≡ Ok tt → ByKey s
