-- Document 01, stage 3. `s` is the bytes, n the file's length.
use Rattle.std.specs.Prelude.{ℕ, ◌+◌, ◌%◌, List, [], ◌∷◌, Bool, true, length, leb}
use Rattle.wire.specs.Pick.{pick}
use Rattle.wire.specs.Tests.{◌≤?◌, ◌≡?◌, is, is_not, passes, all_below}
use Rattle.wire.specs.Bytes.{same_bytes, largest_integer}
use Rattle.header.specs.Names.{identifier, longest_name}
use Rattle.header.specs.Fields.{header_length, header_type, grid_rows, grid_columns, tile_rows, tile_columns, checksum_enabled, raster_space, coordinate_system, element_count, header_limit}
use Rattle.record.specs.Chain.{header_end}
use Rattle.record.specs.Types.{header_record_type}
use Rattle.header.specs.Element.{entry_start, element, element_name, entries_read, short_kind, most_elements}
use Rattle.header.specs.Texts.{text_right, entry_texts}
use Rattle.header.specs.Tail.{method_count, product_label_at, fields_end}

-- its length is a multiple of 8, not negative, and ends inside the file
unfoldable pub length_right : List ℕ → ℕ → Bool
length_right s n = passes ((header_length s % 8 ≡? 0) ∷ (header_length s ≤? largest_integer) ∷ (header_end s ≤? n) ∷ [])

-- and all of it is among the bytes; its type is 6
unfoldable pub frame_right : List ℕ → ℕ → Bool
frame_right s n = passes (is (length_right s n) ∷ (header_end s ≤? length s) ∷ (header_type s ≡? header_record_type) ∷ [])

-- a count or side is at least 1, and not negative
unfoldable pub positive : ℕ → Bool
positive x = passes ((1 ≤? x) ∷ (x ≤? largest_integer) ∷ [])

-- grid and tile sides are at least 1
unfoldable pub sides_right : List ℕ → Bool
sides_right s =
    passes
    (is (positive (grid_rows s)) ∷ is (positive (grid_columns s)) ∷ is (positive (tile_rows s)) ∷ is (positive (tile_columns s)) ∷ [])

-- checksum-enabled is 0 or 1; raster space and coordinate system are 0 to 2
unfoldable pub options_right : List ℕ → Bool
options_right s = passes ((checksum_enabled s ≤? 1) ∷ (raster_space s ≤? 2) ∷ (coordinate_system s ≤? 2) ∷ [])

-- the names of two elements are not equal
unfoldable pub names_differ : List ℕ → ℕ → ℕ → Bool
names_differ s e d = passes (is_not (same_bytes (element_name s d) (element_name s e)) ∷ [])

-- an element's type is one of G's Table 2, by the codes of Table 8; its name is an identifier of at most 32 characters
-- (Table 8), and no earlier element has it; its label, its description and its unit are UTF-8 (Req 06)
unfoldable pub element_right : List ℕ → ℕ → Bool
element_right s e =
    passes
    (((element s e).kind ≤? short_kind) ∷ is (identifier longest_name (element_name s e)) ∷ is (all_below e (names_differ s e))
    ∷ is (entry_texts s (entry_start s e)) ∷ [])

-- there is at least one element; the entries read fit before the checksum, each is right, and no two names are equal.
-- The entries begin at 284, so this also says that every fixed field fits
unfoldable pub elements_right : List ℕ → Bool
elements_right s =
    passes
    (is (positive (element_count s)) ∷ (entry_start s (entries_read s) ≤? header_limit s)
    ∷ is (all_below (entries_read s) (element_right s)) ∷ [])

-- what follows the entries, where there are at most 16: a count of methods that is not negative, fields that fit with
-- 0 to 7 padding bytes before the checksum, and a product label that is UTF-8 (Req 06)
unfoldable pub tail_right : List ℕ → Bool
tail_right s =
    pick (leb (element_count s) most_elements)
    (passes ((method_count s ≤? largest_integer) ∷ (fields_end s ≤? header_limit s) ∷ (header_limit s ≤? fields_end s + 7)
    ∷ is (text_right s (product_label_at s)) ∷ []))
    true

-- stage 3
unfoldable pub header_right : List ℕ → ℕ → Bool
header_right s n =
    passes
    (is (frame_right s n) ∷ is (sides_right s) ∷ is (options_right s) ∷ is (elements_right s) ∷ is (tail_right s) ∷ [])
