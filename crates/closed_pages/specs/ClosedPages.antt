-- Req 03: "the file is then accepted": a page that was open for writing is accepted once it is closed, and has the tiles that it had.
use Rattle.std.specs.Prelude.{ℕ, ◌≤◌, ◌<◌, ◌≡◌, List, false, length}
use Rattle.wire.specs.Bytes.{Bytes, Same}
use Rattle.record.specs.Chain.{header_end}
use Rattle.header.specs.Fields.{time_modified, tile_directory_reference}
use Rattle.check_header.specs.Ceilings.{most_file_bytes}
use Rattle.page_check.specs.Accepted.{Obeys}
use Rattle.writable.specs.Writable.{Open}
use Rattle.correct.specs.Closing.{closed_page}
use Rattle.page_laws.specs.Tiles.{tiles_of, Follows, InPlace}

pub record ClosedKeeps (s : List ℕ) (t : ℕ) : Type 0 where
  pub obeys : Obeys (closed_page s t)
  pub follows : Follows s (closed_page s t) (λ j. false) (tiles_of s)
  pub places : InPlace s (closed_page s t) (λ j. false)
  -- Req 03, reading 15: the time modified is the caller's
  pub time : time_modified (closed_page s t) ≡ t
  -- the tile directory's reference stays, and so does every byte from the header's end to where the page ended
  pub reference : tile_directory_reference (closed_page s t) ≡ tile_directory_reference s
  pub behind : Same s (closed_page s t) (header_end s) (length s)

-- t is a time of 64 bits; the page does not pass the ceiling
abbrev pub ClosedAccepted : Type 0
ClosedAccepted =
    (s : List ℕ) (t : ℕ) → Bytes s → Open s → t < 18446744073709551616 → length (closed_page s t) ≤ most_file_bytes → ClosedKeeps s t
