-- Req 08: which rule a page says, by its records. s is a file, or any bytes.
use Rattle.std.specs.Prelude.{ℕ, ◌≡◌}
use mathlib.Core.List.{List, Memᴰ}
use Rattle.record.specs.Types.{metadata_type}
use Rattle.record.specs.Record.{type_at}
use Rattle.record.specs.Chain.{records}
use Rattle.bodies.specs.MetadataRecord.{metadata_name, record_id}
use Rattle.store.specs.Named.{ids_named}
use Rattle.score_rule.specs.declared.Said.TheVariants.{First, Second, Wrong}
use Rattle.score_rule.specs.Rules.{score_rule, page_says}

-- a metadata record among the file's has the name, byte for byte, and the ID
pub record NamedBy (s name : List ℕ) (i : ℕ) : Type 0 where
  pub start : ℕ
  pub among : Memᴰ start (records s)
  pub kind : type_at s start ≡ metadata_type
  pub named : metadata_name s start ≡ name
  pub id : record_id s start ≡ i

-- the IDs under a name are those of such records, and no other
abbrev pub NamedExactly : Type 0
NamedExactly = (s name : List ℕ) (i : ℕ) → (Memᴰ i (ids_named s name) → NamedBy s name i) × (NamedBy s name i → Memᴰ i (ids_named s name))

-- "A page says so by a metadata record named `score_rule` with record ID 2; ID 1 or no such record means the first rule; any other ID under
-- that name, or both, is 12"
pub record SaysRule (s : List ℕ) : Type 0 where
  pub other : (i : ℕ) → NamedBy s score_rule i → (i ≡ 1 → ⊥) → (i ≡ 2 → ⊥) → page_says s ≡ Wrong
  pub both : NamedBy s score_rule 1 → NamedBy s score_rule 2 → page_says s ≡ Wrong
  pub second : NamedBy s score_rule 2 → ((i : ℕ) → NamedBy s score_rule i → i ≡ 2) → page_says s ≡ Second
  pub first : ((i : ℕ) → NamedBy s score_rule i → i ≡ 1) → page_says s ≡ First

abbrev pub RuleExactly : Type 0
RuleExactly = (s : List ℕ) → SaysRule s
