-- Document 01, 'The listing': the text, as bytes.
use Rattle.std.specs.Prelude.{ℕ, zero, suc, ◌≡◌, List, [], ◌++◌, length, leb, Err, Ok, Result, ⊤}
use Rattle.answer.specs.declared.Refusal.{Refusal}
use Rattle.wire.specs.Pick.{pick}
use Rattle.answer.specs.Refusals.{refusal_number, refusal_place}
use Rattle.header.specs.Fields.{grid_rows, grid_columns, tile_rows, tile_columns, element_count}
use Rattle.geometry.specs.Tiles.{tile_count}
use Rattle.wire.specs.Lists.{some, count_below}
use Rattle.record.specs.Chain.{records, records_of}
use Rattle.record.specs.Types.{tile_type}
use Rattle.page_check.specs.Stages.{check}
use Rattle.tile_routes.specs.Ways.{carries}
use Rattle.listing.specs.Text.{decimal, space, newline, grid_word, tile_word, elements_word, written_word, of_word, refused_word, at_word, too_long, line}

-- `written` is the number of tile records in the chain
unfoldable pub written : List ℕ → ℕ
written s = length (records_of s tile_type)

-- one number line for each tile record in index order: the indexes below n that a tile record carries; in an accepted file no two
-- carry one
unfoldable pub index_lines : List ℕ → ℕ → List ℕ
index_lines s zero = []
index_lines s (suc n) = index_lines s n ++ pick (some (carries s n) (records s)) (decimal n ++ newline) []

-- so an accepted file has a line for each tile record: as many indexes below the tile count have one as `written` says
abbrev pub LineEach : Type 0
LineEach = (s : List ℕ) → check s ≡ Ok tt → count_below (tile_count s) (λ i. some (carries s i) (records s)) ≡ written s

-- sides as rows then columns
unfoldable pub listed : List ℕ → List ℕ
listed s =
    line grid_word (grid_rows s) space (grid_columns s) ++ line tile_word (tile_rows s) space (tile_columns s)
    ++ (elements_word ++ decimal (element_count s) ++ newline) ++ line written_word (written s) of_word (tile_count s)
    ++ index_lines s (tile_count s)

-- a refusal is the single line `refused N at P`
unfoldable pub listed_by : Result ⊤ Refusal → List ℕ → List ℕ
listed_by (Ok accepted) s = listed s
listed_by (Err r) s = line refused_word (refusal_number r) at_word (refusal_place r)

-- the most bytes of a file that is listed
abbrev pub most_listed : ℕ
most_listed = 65536

-- a longer file is the single line `too long`, before any check
unfoldable pub listing : List ℕ → List ℕ
listing s = pick (leb (length s) most_listed) (listed_by (check s) s) too_long
