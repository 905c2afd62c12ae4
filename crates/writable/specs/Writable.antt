-- Req 03, reading 18: a page that is open for writing. It need not have been opened by us.
use Rattle.std.specs.Prelude.{ℕ, ◌≡◌, List, [], ◌∷◌, Bool, true, false, length, Ok, Result, ⊤}
use Rattle.answer.specs.declared.Refusal.{Refusal}
use Rattle.wire.specs.Tests.{◌≡?◌, is, passes}
use Rattle.answer.specs.Refusals.{verdict_number}
use Rattle.header.specs.Fields.{file_space_reference}
use Rattle.record.specs.Types.{file_space_directory_type}
use Rattle.record.specs.Chain.{records, records_of}
use Rattle.geometry.specs.Tiles.{tiles_across, tiles_down}
use Rattle.bodies.specs.TileDirectory.{tile_directory_at, listed_rows, listed_columns}
use Rattle.check_header.specs.Stages.{closed, check_header}
use Rattle.check_directory.specs.References.{no_other}
use Rattle.check_directory.specs.TileRules.{tile_directory_right}
use Rattle.check_lists.specs.Metadata.{metadata_directory_right}
use Rattle.page_check.specs.Stages.{check_records}
use Rattle.page_check.specs.Accepted.{SoundBy}
use Rattle.pieces.specs.Pieces.{pieces_of, pieces, nothing_to_join}

-- stages 1 to 4 pass, the opened time is not zero: stages 1 to 5 answer 5
unfoldable pub is_opened : Result ⊤ Refusal → Bool
is_opened v = passes ((verdict_number v ≡? 5) ∷ [])

-- stages 6 to 8 pass
unfoldable pub records_right : List ℕ → Bool
records_right s = passes ((verdict_number (check_records s (Ok tt)) ≡? 0) ∷ [])

-- Req 03, reading 6: the tile directory is full, it lists every tile of the grid. Where it is right its rectangle then starts at 0
unfoldable pub directory_full : List ℕ → Bool
directory_full s =
    passes ((listed_rows s (tile_directory_at s) ≡? tiles_down s) ∷ (listed_columns s (tile_directory_at s) ≡? tiles_across s) ∷ [])

-- the file-space reference is zero and no record has type 3, since no content starts at 0: free records are listed nowhere
unfoldable pub no_file_space : List ℕ → Bool
no_file_space s = passes ((file_space_reference s ≡? 0) ∷ is (no_other s file_space_directory_type 0) ∷ [])

-- the tile directory and the metadata directory are right by stage 9, the tile directory is full, there is no file-space directory
unfoldable pub directories_open : List ℕ → Bool
directories_open s =
    passes (is (tile_directory_right s) ∷ is (directory_full s) ∷ is (metadata_directory_right s) ∷ is (no_file_space s) ∷ [])

-- all of it, and no two free records adjoin
unfoldable pub open_for_writing : List ℕ → Bool
open_for_writing s =
    passes
    (is (is_opened (check_header s (length s))) ∷ is (records_right s) ∷ is (directories_open s) ∷ is (nothing_to_join (pieces s)) ∷ [])

-- the same in facts, of the records xs that stand behind the header
pub record OpenBy (s : List ℕ) (xs : List ℕ) : Type 0 where
  pub sound : SoundBy s xs
  pub opened : closed s ≡ false
  pub full : directory_full s ≡ true
  pub no_reference : file_space_reference s ≡ 0
  pub no_directory : records_of s file_space_directory_type ≡ []
  pub none_adjoin : nothing_to_join (pieces_of s xs) ≡ true

abbrev pub Open : List ℕ → Type 0
Open s = OpenBy s (records s)

abbrev pub OpenExactly : Type 0
OpenExactly = (s : List ℕ) → (open_for_writing s ≡ true → Open s) × (Open s → open_for_writing s ≡ true)
