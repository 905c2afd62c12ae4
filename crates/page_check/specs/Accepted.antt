-- What an accepted file is: it obeys each rule that document 01 condenses version 1.4 to.
use Rattle.std.specs.Prelude.{ℕ, ◌≡◌, true, length, Ok}
use mathlib.Core.List.{List, Memᴰ}
use Rattle.record.specs.Chain.{Whole, header_end, records}
use Rattle.check_header.specs.Stages.{closed}
use Rattle.check_header.specs.Passed.{Headed}
use Rattle.check_records.specs.Checksum.{checksum_right}
use Rattle.check_records.specs.Faults.{body_right}
use Rattle.check_directory.specs.TileRules.{tile_directory_right}
use Rattle.check_lists.specs.Metadata.{metadata_directory_right}
use Rattle.check_lists.specs.FileSpace.{file_space_right}
use Rattle.page_check.specs.Stages.{check}

-- what holds of a page whether it is closed or open for writing (Req 03): stages 1 to 4, stages 6 to 8 and, of stage 9, the tile and the
-- metadata directory. xs are the records that stand behind the header
pub record SoundBy (s : List ℕ) (xs : List ℕ) : Type 0 where
  pub headed : Headed s (length s)
  pub chain : Whole s (header_end s) xs
  pub header_checksum : checksum_right s 16 ≡ true
  pub checksums : {x : ℕ} → Memᴰ x xs → checksum_right s x ≡ true
  pub bodies : {x : ℕ} → Memᴰ x xs → body_right s x ≡ true
  pub tile_directory : tile_directory_right s ≡ true
  pub metadata_directory_lem : metadata_directory_right s ≡ true

abbrev pub Sound : List ℕ → Type 0
Sound s = SoundBy s (records s)

-- what an accepted file has beside it: it is closed, stage 5, and its file_space directory is right
pub record ObeysBy (s : List ℕ) (xs : List ℕ) : Type 0 where
  pub sound : SoundBy s xs
  pub not_opened : closed s ≡ true
  pub file_space : file_space_right s ≡ true

abbrev pub Obeys : List ℕ → Type 0
Obeys s = ObeysBy s (records s)

-- demand 2: a file is accepted exactly when it obeys
abbrev pub AcceptedExactly : Type 0
AcceptedExactly = (s : List ℕ) → (check s ≡ Ok tt → Obeys s) × (Obeys s → check s ≡ Ok tt)
