-- Req 03, reading 20: where metadata records and their directory stay, stage 9's metadata rules say the same.
use Rattle.std.specs.Prelude.{ℕ, ◌≡◌, List, ◌++◌, length}
use Rattle.record.specs.Types.{metadata_type, metadata_directory_type}
use Rattle.record.specs.Chain.{joined, WellFormed}
use Rattle.header.specs.Fields.{metadata_reference}
use Rattle.check_records.specs.declared.Rule.TheVariants.{Body}
use Rattle.check_lists.specs.Metadata.{metadata_directory_right}
use Rattle.pieces.specs.Standing.{standing}
use Rattle.alone.specs.Alone.{Front, AllAlone}

-- two pages in which the same metadata records and metadata directories stand at the same places
pub record MetadataStands (f : List ℕ) (rs : List (List ℕ)) (g : List ℕ) (qs : List (List ℕ)) : Type 0 where
  pub first : Front f
  pub second : Front g
  pub ends : length f ≡ length g
  pub reference : metadata_reference f ≡ metadata_reference g
  pub formed : WellFormed rs
  pub formed_too : WellFormed qs
  pub right : AllAlone f Body rs
  pub records : standing metadata_type (length f) rs ≡ standing metadata_type (length g) qs
  pub directories : standing metadata_directory_type (length f) rs ≡ standing metadata_directory_type (length g) qs

abbrev pub StandingKeeps : Type 0
StandingKeeps =
    (f : List ℕ) (rs : List (List ℕ)) (g : List ℕ) (qs : List (List ℕ)) → MetadataStands f rs g qs →
    metadata_directory_right (f ++ joined rs) ≡ metadata_directory_right (g ++ joined qs)
