-- Req 03: an accepted file that is opened is open for writing, and has the tiles that it had.
use Rattle.std.specs.Prelude.{ℕ, ◌≤◌, ◌<◌, ◌≡◌, List, true, false, length}
use Rattle.wire.specs.Bytes.{Bytes}
use Rattle.record.specs.Record.{content_at}
use Rattle.header.specs.Fields.{time_modified, time_opened, tile_directory_reference}
use Rattle.check_header.specs.Ceilings.{most_file_bytes}
use Rattle.page_check.specs.Accepted.{Obeys}
use Rattle.writable.specs.Writable.{directory_full, Open}
use Rattle.correct.specs.Opening.{opened_page}
use Rattle.page_laws.specs.Tiles.{tiles_of, tile_directory_of, Follows, InPlace}

-- an accepted file, a time of 64 bits that is not zero, and the page does not pass the ceiling
pub record Opens (s : List ℕ) (t : ℕ) : Type 0 where
  pub bytes : Bytes s
  pub obeys : Obeys s
  pub some_time : t ≡ 0 → ⊥
  pub small : t < 18446744073709551616
  pub room : length (opened_page s t) ≤ most_file_bytes

pub record OpenedKeeps (s : List ℕ) (t : ℕ) : Type 0 where
  pub open_page_lem : Open (opened_page s t)
  pub follows : Follows s (opened_page s t) (λ j. false) (tiles_of s)
  pub places : InPlace s (opened_page s t) (λ j. false)
  -- Req 03, reading 15: the opened time is the caller's, the time modified stays
  pub time : time_opened (opened_page s t) ≡ t
  pub modified : time_modified (opened_page s t) ≡ time_modified s
  -- Req 03, readings 6 and 7: a full tile directory stays as it is; else the header refers to a new one where the page ended
  pub directory : directory_full s ≡ true → tile_directory_of (opened_page s t) ≡ tile_directory_of s
  pub reference : directory_full s ≡ true → tile_directory_reference (opened_page s t) ≡ tile_directory_reference s
  pub new_reference : directory_full s ≡ false → tile_directory_reference (opened_page s t) ≡ content_at (length s)

abbrev pub OpenedOpens : Type 0
OpenedOpens = (s : List ℕ) (t : ℕ) → Opens s t → OpenedKeeps s t
