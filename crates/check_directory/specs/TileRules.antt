-- Document 01, stage 9; G 4.2.8 and Table 21: the tile directory.
use Rattle.std.specs.Prelude.{ℕ, ◌+◌, List, [], ◌∷◌, Bool, ◌||◌, not, eqb}
use Rattle.wire.specs.Tests.{◌≤?◌, ◌≡?◌, is, passes, all_below}
use Rattle.wire.specs.Bytes.{largest_integer}
use Rattle.header.specs.Fields.{tile_directory_reference}
use Rattle.record.specs.Record.{content_at, padded}
use Rattle.geometry.specs.Tiles.{tiles_across, tiles_down, tile_count}
use Rattle.bodies.specs.TileRecord.{tile_index}
use Rattle.bodies.specs.TileDirectory.{directory_format, first_row, reference_at, tile_reference, tile_directory_at, standard_references, listed_rows, references_end, first_column, listed_columns}
use Rattle.record.specs.Chain.{records_of}
use Rattle.record.specs.Types.{tile_type, tile_directory_type}
use Rattle.wire.specs.Lists.{every, some}
use Rattle.check_directory.specs.References.{refers_to, no_other}

-- the fields that pick the form have a printed value: format 0, standard references 0 or 1. That these fields, and those of the
-- rectangle, lie in the record is said by `padded`, since the references begin at 32
unfoldable pub form_right : List ℕ → Bool
form_right s = passes ((directory_format s (tile_directory_at s) ≡? 0) ∷ (standard_references s (tile_directory_at s) ≤? 1) ∷ [])

-- one direction of the rectangle of tiles: no negative start or side, and it ends inside the tile grid; it may be empty
unfoldable pub span_right : ℕ → ℕ → ℕ → Bool
span_right start side tiles = passes ((start ≤? largest_integer) ∷ (side ≤? largest_integer) ∷ (start + side ≤? tiles) ∷ [])

unfoldable pub rectangle_right : List ℕ → Bool
rectangle_right s =
    passes
    (is (span_right (first_row s (tile_directory_at s)) (listed_rows s (tile_directory_at s)) (tiles_down s))
    ∷ is (span_right (first_column s (tile_directory_at s)) (listed_columns s (tile_directory_at s)) (tiles_across s)) ∷ [])

-- it is not zero. For private functions of tile_rules.rt; no rule of stage 9 rests on it
unfoldable pub gives : List ℕ → ℕ → Bool
gives s k = not (eqb (reference_at s (tile_directory_at s) k) 0)

-- every tile record is listed at its own index; so no two have one index
unfoldable pub tiles_listed : List ℕ → Bool
tiles_listed s = every (λ x. eqb (tile_reference s (tile_index s x)) (content_at x)) (records_of s tile_type)

-- a reference is the content of a tile record with that index
unfoldable pub gives_tile : List ℕ → ℕ → Bool
gives_tile s i =
    some (λ x. passes ((content_at x ≡? tile_reference s i) ∷ (tile_index s x ≡? i) ∷ [])) (records_of s tile_type)

-- every reference that is not zero is one. The rectangle lies in the tile grid, so each reference belongs to exactly one index
-- below the tile count
unfoldable pub tiles_only : List ℕ → Bool
tiles_only s = all_below (tile_count s) (λ i. eqb (tile_reference s i) 0 || gives_tile s i)

unfoldable pub tile_directory_right : List ℕ → Bool
tile_directory_right s =
    passes
    (is (refers_to s tile_directory_type (tile_directory_reference s))
    ∷ is (no_other s tile_directory_type (tile_directory_reference s)) ∷ is (form_right s) ∷ is (rectangle_right s)
    ∷ is (padded s (tile_directory_at s) (references_end s)) ∷ is (tiles_listed s) ∷ is (tiles_only s) ∷ [])
