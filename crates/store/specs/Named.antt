-- Req 08: the metadata records under a name, in file order (G Table 14). The name asked for is any bytes, compared byte for byte (G 3.6.1,
-- rule 5: with case).
use Rattle.std.specs.Prelude.{ℕ, ◌<◌, ◌≡◌, List, [], ◌∷◌, map, Bool, length, get_or, Ok}
use Rattle.wire.specs.Tests.{◌≡?◌, is, passes}
use Rattle.wire.specs.Lists.{select}
use Rattle.wire.specs.Bytes.{same_bytes}
use Rattle.record.specs.Types.{metadata_type}
use Rattle.record.specs.Record.{type_at}
use Rattle.record.specs.Chain.{records}
use Rattle.bodies.specs.MetadataRecord.{metadata_name, record_id}
use Rattle.page_check.specs.Stages.{check}
use Rattle.store.specs.declared.named.NamedIds.{NamedIds}
use Rattle.store.specs.declared.named.NamedIds.TheVariants.{Absent, One, Several}

-- the record at x is a metadata record with the name
unfoldable pub is_named : List ℕ → List ℕ → ℕ → Bool
is_named s name x = passes ((type_at s x ≡? metadata_type) ∷ is (same_bytes (metadata_name s x) name) ∷ [])

-- the starts of those of a file, and their record IDs, each of four bytes
unfoldable pub records_named : List ℕ → List ℕ → List ℕ
records_named s name = select (is_named s name) (records s)

unfoldable pub ids_named : List ℕ → List ℕ → List ℕ
ids_named s name = map (record_id s) (records_named s name)

-- as an answer: none, one by its ID, or more than one
abbrev pub as_named : List ℕ → NamedIds
as_named [] = Absent
as_named (i ∷ []) = One i
as_named (i ∷ j ∷ l) = Several

unfoldable pub name_said : List ℕ → List ℕ → NamedIds
name_said s name = as_named (ids_named s name)

-- in an accepted file no two records under one name have one ID (stage 9: the pair of name and ID is unique)
abbrev pub IdsDiffer : Type 0
IdsDiffer =
    (s name : List ℕ) → check s ≡ Ok tt → (i k : ℕ) → i < k → k < length (ids_named s name) →
    get_or (ids_named s name) i 0 ≡ get_or (ids_named s name) k 0 → ⊥
