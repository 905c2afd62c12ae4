-- Req 11: metadata records that move, with their directory's entries. Stage 9's metadata list stays a rearrangement.
use Rattle.std.specs.Prelude.{ℕ, ◌≡◌, true}
use mathlib.Core.List.{List, map, Memᴰ}
use Rattle.record.specs.Record.{content_at}
use Rattle.record.specs.Types.{metadata_type}
use Rattle.record.specs.Chain.{records_of}
use Rattle.check_records.specs.MetadataBody.{metadata_right}
use Rattle.metadata_keys.specs.Pairs.{keys_distinct}
use Rattle.check_lists.specs.Metadata.{metadata_listed, metadata_only}
use Rattle.check_lists.specs.Rearranged.{Described, metadata_entries}
use Rattle.alone.specs.Alone.{SameRecord}

-- an entry with another content
abbrev pub renamed : (ℕ → ℕ) → Described → Described
renamed to d = record { content = to d.content; name = d.name; id = d.id; code = d.code }

-- each metadata record of s stands in t, where `to` gives its new start; the directory of t has the entries of s, with the contents
-- through `named`, which agrees with `to`
pub record MetadataMoves (s t : List ℕ) (to named : ℕ → ℕ) : Type 0 where
  pub records : records_of t metadata_type ≡ map to (records_of s metadata_type)
  pub record_same : (x : ℕ) → Memᴰ x (records_of s metadata_type) → SameRecord s x t (to x)
  pub record_right : (x : ℕ) → Memᴰ x (records_of s metadata_type) → metadata_right s x ≡ true
  pub agree : (x : ℕ) → Memᴰ x (records_of s metadata_type) → named (content_at x) ≡ content_at (to x)
  pub entries : metadata_entries t ≡ map (renamed named) (metadata_entries s)

abbrev pub MovesKeep : Type 0
MovesKeep =
    (s t : List ℕ) (to named : ℕ → ℕ) → MetadataMoves s t to named → metadata_listed s ≡ true → metadata_only s ≡ true → keys_distinct s ≡ true →
    (metadata_listed t ≡ true) × ((metadata_only t ≡ true) × (keys_distinct t ≡ true))
