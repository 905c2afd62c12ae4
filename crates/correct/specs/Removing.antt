-- Req 03, removing: "removing an absent tile succeeds and changes nothing". s is the page, i the tile's index.
use Rattle.std.specs.Prelude.{ℕ, List, ◌++◌, map, Bool, true, false, take, None, Option, Some}
use Rattle.wire.specs.Pick.{pick}
use Rattle.record.specs.Chain.{header_end, joined}
use Rattle.pieces.specs.Pieces.{pieces}
use Rattle.pieces.specs.Edits.{with_reference}
use Rattle.correct.specs.Storing.{tile_referred, freed_of}

-- the tile has a record
abbrev pub is_found : Option ℕ → Bool
is_found None = false
is_found (Some x) = true

unfoldable pub is_there : List ℕ → ℕ → Bool
is_there s i = is_found (tile_referred s i)

-- Req 03, readings 8 and 13: the record is freed and joined, and the directory's reference is zero; absent, nothing changes
unfoldable pub removed_pieces : List ℕ → ℕ → List (List ℕ)
removed_pieces s i = pick (is_there s i) (map (with_reference s i 0) (freed_of s i)) (pieces s)

-- Req 03, readings 5 and 16: the front stays, and the page is as long as it was
unfoldable pub removed_page : List ℕ → ℕ → List ℕ
removed_page s i = take (header_end s) s ++ joined (removed_pieces s i)
