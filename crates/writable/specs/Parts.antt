-- Req 03: a sound page, accepted or open for writing, as its front and its pieces, with what an edit of it asks for (`Edit`).
use Rattle.std.specs.Prelude.{ℕ, ◌≤◌, ◌≡◌, List, ◌++◌, length, take, None}
use Rattle.wire.specs.Bytes.{Bytes, Same, largest_integer}
use Rattle.record.specs.Chain.{header_end, joined, WellFormed}
use Rattle.header.specs.Fields.{file_space_reference, metadata_reference, tile_directory_reference}
use Rattle.check_header.specs.Ceilings.{most_file_bytes}
use Rattle.check_header.specs.Stages.{closed}
use Rattle.check_header.specs.Passed.{Headed}
use Rattle.check_header.specs.Judged.{SameJudged}
use Rattle.check_records.specs.Faults.{checksum_fault, body_fault}
use Rattle.page_check.specs.Accepted.{Sound}
use Rattle.pieces.specs.Pieces.{pieces}
use Rattle.pieces.specs.Standing.{AllOf}
use Rattle.alone.specs.Alone.{SameHeader, Front}
use Rattle.alone.specs.Edited.{Piece}

pub record Parted (s f : List ℕ) (rs : List (List ℕ)) : Type 0 where
  pub whole : s ≡ f ++ joined rs
  pub ends : length f ≡ header_end s
  pub front : Front f
  -- the front says what the page's header says
  pub judged : SameJudged s f
  pub header : SameHeader s f
  -- each piece is a record by itself, of bytes where the page is
  pub formed : WellFormed rs
  pub each : Bytes s → AllOf Piece rs
  pub room : length (joined rs) ≤ largest_integer
  -- stages 7 and 8 of the page so put together
  pub checksums : checksum_fault (f ++ joined rs) ≡ None
  pub bodies : body_fault (f ++ joined rs) ≡ None

abbrev pub SoundParted : Type 0
SoundParted = (s : List ℕ) → Sound s → Parted s (take (header_end s) s) (pieces s)

-- a page with the same bytes up to the header's end: what its header says
pub record SameFront (s t : List ℕ) : Type 0 where
  pub headed : Headed t (length t)
  pub header : SameHeader s t
  pub ends : header_end s ≡ header_end t
  pub open_same : closed s ≡ closed t
  pub space : file_space_reference s ≡ file_space_reference t
  pub metadata : metadata_reference s ≡ metadata_reference t
  pub tiles : tile_directory_reference s ≡ tile_directory_reference t

abbrev pub FrontKept : Type 0
FrontKept = (s t : List ℕ) → Sound s → Same s t 0 (header_end s) → length t ≤ most_file_bytes → SameFront s t
