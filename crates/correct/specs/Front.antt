-- Req 03: a page in a lent buffer, and the front of a page whose fields a call sets.
use Rattle.std.specs.Prelude.{ℕ, ◌-◌, List, [], ◌∷◌, Bool, length}
use Rattle.wire.specs.Tests.{◌≤?◌, is, passes}
use Rattle.wire.specs.Bytes.{part}
use Rattle.record.specs.Chain.{header_end}
use Rattle.header.specs.Fields.{checksum_enabled}
use Rattle.check_header.specs.Ceilings.{within_ceilings}
use Rattle.bodies.specs.TileDirectory.{tile_directory_at}
use Rattle.written_records.specs.Pieces.{sealed}

-- Req 03, reading 1: the page is the first n bytes of the buffer; none where it has not as many
unfoldable pub page_in : List ℕ → ℕ → List ℕ
page_in b n = part b 0 n

-- Req 03, reading 16: the front f of page s, with the header's checksum made anew over the header record's own bytes
unfoldable pub sealed_front : List ℕ → List ℕ → List ℕ
sealed_front s f = sealed (checksum_enabled s) f 16 (header_end s - 16)

-- what every call takes for granted of a page: the house ceilings are kept, so that no number that is worked out from it is too large; the
-- header ends behind the fields that are set, and the tile directory stands behind it. A page that is accepted or open for writing is so
unfoldable pub workable : List ℕ → Bool
workable s = passes (is (within_ceilings s (length s)) ∷ (88 ≤? header_end s) ∷ (header_end s ≤? tile_directory_at s) ∷ [])
