-- Document 01, stage 9, as rows.
use Rattle.std.specs.Prelude.{ℕ, ◌+◌, ◌*◌, ◌/◌, ◌%◌, min, List, [], ◌∷◌, ◌++◌, Bool, true, ◌||◌, length, leb, eqb, None, Option, Some}
use Rattle.wire.specs.Pick.{pick}
use Rattle.wire.specs.Lists.{count_below}
use Rattle.wire.specs.Tests.{◌≤?◌}
use Rattle.wire.specs.Bytes.{largest_integer}
use Rattle.record.specs.Record.{content_at, record_limit}
use Rattle.record.specs.Chain.{records_of}
use Rattle.record.specs.Types.{free_type, metadata_type, tile_type, tile_directory_type, metadata_directory_type, file_space_directory_type}
use Rattle.header.specs.Fields.{tile_directory_reference, metadata_reference, file_space_reference}
use Rattle.geometry.specs.Tiles.{tiles_down, tiles_across, tile_count}
use Rattle.bodies.specs.TileRecord.{tile_index}
use Rattle.bodies.specs.TileDirectory.{tile_directory_at, directory_format, standard_references, first_row, first_column, listed_rows, listed_columns, reference_size, references_end, number_of, tile_reference}
use Rattle.bodies.specs.ListDirectories.{file_space_at, free_count, free_entry_at, metadata_at, metadata_count, metadata_entry_at}
use Rattle.check_directory.specs.References.{refers_to, refers_or_zero}
use Rattle.check_directory.specs.TileRules.{gives_tile}
use Rattle.check_lists.specs.FileSpace.{free_entry_is}
use Rattle.metadata_keys.specs.Pairs.{keys_distinct}
use Rattle.check_lists.specs.Metadata.{metadata_entry_is}
use Rattle.check_lists.specs.declared.ListKind.{ListKind}
use Rattle.check_lists.specs.inner.Search.{first_unlisted}
use Rattle.reasons.specs.Rows.{Row, fault_of, at_most, at_least, equal, holds, rows_below}

-- above every position in a file
abbrev pub farthest : ℕ
farthest = 10000000000000000000

-- rows, and then others
unfoldable pub then_rows : List Row → List Row → List Row
then_rows xs ys = xs ++ ys

-- the rows of each record of a list, numbered from k on
unfoldable pub rows_over : (ℕ → ℕ → List Row) → ℕ → List ℕ → List Row
rows_over f k [] = []
rows_over f k (x ∷ xs) = f k x ++ rows_over f (k + 1) xs

-- a record of a directory's type is the one that the header refers to
unfoldable pub other_rows : ℕ → ℕ → ℕ → ℕ → List Row
other_rows rule reference k x = equal rule k x (content_at x) reference ∷ []

-- entries that end at `end` fit the record at `at` with 0 to 7 padding bytes; the end told is held under `farthest`
unfoldable pub padded_rows : List ℕ → ℕ → ℕ → ℕ → List Row
padded_rows s rule at end =
    record { fault = fault_of rule 0 at (min end farthest) (record_limit s at); rule = end ≤? record_limit s at }
    ∷ record { fault = fault_of (rule + 1) 0 at (record_limit s at) (min end farthest + 7); rule = record_limit s at ≤? end + 7 }
    ∷ []

-- one direction of the rectangle of tiles, 0 rows, 1 columns
unfoldable pub span_rows : ℕ → ℕ → ℕ → ℕ → ℕ → ℕ → List Row
span_rows i p q start side tiles =
    at_most 53 i p start largest_integer ∷ at_most 54 i q side largest_integer ∷ at_most 55 i q (start + side) tiles ∷ []

-- where reference number n of the tile directory begins, held under `farthest`
unfoldable pub reference_place : List ℕ → ℕ → ℕ
reference_place s n = min (tile_directory_at s + 32 + n * reference_size s) farthest

-- the number that a tile index has in the rectangle, if this has it
unfoldable pub number_in : List ℕ → ℕ → ℕ
number_in s i = number_of s (tile_directory_at s) (i / tiles_across s) (i % tiles_across s)

-- the reference of a tile index is zero or the content of a tile record with that index
unfoldable pub given_right : List ℕ → ℕ → Bool
given_right s i = eqb (tile_reference s i) 0 || gives_tile s i

-- a tile record is listed at its own index; a reference that is not zero is the content of a tile record with that index
unfoldable pub listed_tile_rows : List ℕ → ℕ → ℕ → List Row
listed_tile_rows s k x = equal 58 (tile_index s x) x (tile_reference s (tile_index s x)) (content_at x) ∷ []

unfoldable pub given_rows : List ℕ → ℕ → List Row
given_rows s i = holds 59 i (reference_place s (number_in s i)) (tile_reference s i) 0 (given_right s i) ∷ []

unfoldable pub form_rows : List ℕ → ℕ → List Row
form_rows s at = equal 51 0 (at + 8) (directory_format s at) 0 ∷ at_most 52 0 (at + 9) (standard_references s at) 1 ∷ []

unfoldable pub rectangle_rows : List ℕ → ℕ → List Row
rectangle_rows s at =
    span_rows 0 (at + 16) (at + 24) (first_row s at) (listed_rows s at) (tiles_down s)
    ++ span_rows 1 (at + 20) (at + 28) (first_column s at) (listed_columns s at) (tiles_across s)

unfoldable pub tile_referred_rows : List ℕ → List Row
tile_referred_rows s = holds 49 0 80 (tile_directory_reference s) 0 (refers_to s tile_directory_type (tile_directory_reference s)) ∷ []

unfoldable pub tile_frame_rows : List ℕ → List Row
tile_frame_rows s =
    rows_over (other_rows 50 (tile_directory_reference s)) 0 (records_of s tile_directory_type)
    ++ (form_rows s (tile_directory_at s)
    ++ (rectangle_rows s (tile_directory_at s) ++ padded_rows s 56 (tile_directory_at s) (references_end s)))

unfoldable pub tile_list_rows : List ℕ → List Row
tile_list_rows s = then_rows (rows_over (listed_tile_rows s) 0 (records_of s tile_type)) (rows_below (tile_count s) (given_rows s))

unfoldable pub tile_directory_rows : List ℕ → List Row
tile_directory_rows s = then_rows (tile_referred_rows s) (then_rows (tile_frame_rows s) (tile_list_rows s))

-- a list of n entries, whose number stands at p: as many as there are records, and each of these once; found is how often
unfoldable pub once_rows : ℕ → ℕ → (ℕ → ℕ → Bool) → ℕ → ℕ → List Row
once_rows rule n entryIs k x = equal rule k x (count_below n (entryIs x)) 1 ∷ []

-- the same, but nothing of a record that starts before `from`
unfoldable pub once_from_rows : ℕ → ℕ → ℕ → (ℕ → ℕ → Bool) → ℕ → ℕ → List Row
once_from_rows from rule n entryIs k x = pick (leb from x) (once_rows rule n entryIs k x) []

-- the place that was found, else the end
abbrev pub place_or : ℕ → Option ℕ → ℕ
place_or end (Some x) = x
place_or end None = end

-- where the first record starts that is not listed once; the file's end where there is none
unfoldable pub asked_from : List ℕ → ListKind → ℕ
asked_from s list = place_or (length s) (first_unlisted s list)

unfoldable pub list_rows : List ℕ → ℕ → ℕ → ℕ → ℕ → (ℕ → ℕ → Bool) → List Row
list_rows s rule p kind n entryIs =
    equal rule 0 p n (length (records_of s kind)) ∷ rows_over (once_rows (rule + 1) n entryIs) 0 (records_of s kind)

-- no two metadata records have the same pair of name and ID: the rule alone
unfoldable pub key_rows : List ℕ → List Row
key_rows s = holds 67 0 (metadata_reference s) 0 0 (keys_distinct s) ∷ []

-- the number of entries, which is not negative, and that they fit, where there is a metadata directory
unfoldable pub metadata_fitting_rows : List ℕ → List Row
metadata_fitting_rows s =
    at_most 62 0 (metadata_reference s) (metadata_count s) largest_integer
    ∷ padded_rows s 63 (metadata_at s) (metadata_entry_at s (metadata_count s))

unfoldable pub metadata_fit_rows : List ℕ → List Row
metadata_fit_rows s = pick (eqb (metadata_reference s) 0) [] (metadata_fitting_rows s)

unfoldable pub metadata_referred_rows : List ℕ → List Row
metadata_referred_rows s = holds 60 0 64 (metadata_reference s) 0 (refers_or_zero s metadata_directory_type (metadata_reference s)) ∷ []

unfoldable pub metadata_frame_rows : List ℕ → List Row
metadata_frame_rows s = rows_over (other_rows 61 (metadata_reference s)) 0 (records_of s metadata_directory_type) ++ metadata_fit_rows s

unfoldable pub metadata_directory_rows : List ℕ → List Row
metadata_directory_rows s =
    then_rows (metadata_referred_rows s)
    (then_rows (metadata_frame_rows s)
    (then_rows (list_rows s 65 (metadata_reference s) metadata_type (metadata_count s) (metadata_entry_is s)) (key_rows s)))

-- the number of entries, at least 1 and not negative, and that they fit, where there is a file-space directory
unfoldable pub free_fitting_rows : List ℕ → List Row
free_fitting_rows s =
    at_least 70 0 (file_space_reference s) (free_count s) 1
    ∷ at_most 71 0 (file_space_reference s) (free_count s) largest_integer
    ∷ padded_rows s 72 (file_space_at s) (free_entry_at s (free_count s))

unfoldable pub free_fit_rows : List ℕ → List Row
free_fit_rows s = pick (eqb (file_space_reference s) 0) [] (free_fitting_rows s)

unfoldable pub file_space_referred_rows : List ℕ → List Row
file_space_referred_rows s = holds 68 0 56 (file_space_reference s) 0 (refers_or_zero s file_space_directory_type (file_space_reference s)) ∷ []

unfoldable pub file_space_frame_rows : List ℕ → List Row
file_space_frame_rows s = rows_over (other_rows 69 (file_space_reference s)) 0 (records_of s file_space_directory_type) ++ free_fit_rows s

unfoldable pub file_space_rows : List ℕ → List Row
file_space_rows s =
    then_rows (file_space_referred_rows s)
    (then_rows (file_space_frame_rows s) (list_rows s 74 (file_space_reference s) free_type (free_count s) (free_entry_is s)))

unfoldable pub directory_rows : List ℕ → List Row
directory_rows s = then_rows (tile_directory_rows s) (then_rows (metadata_directory_rows s) (file_space_rows s))
