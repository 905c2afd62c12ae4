-- What a page is and what an element of it is, in numbers: each is a field of the header (G Tables 7 and 8), or follows from fields, or
-- counts records.
use Rattle.answer.specs.declared.Refusal.{Refusal}
use Rattle.std.specs.Prelude.{ℕ, ◌+◌, ◌≤◌, ◌<◌, ◌≡◌, List, length, leb, Ok, Err, Result}
use Rattle.wire.specs.Pick.{pick}
use Rattle.answer.specs.declared.Refusal.TheVariants.{OutsideGrid}
use Rattle.answer.specs.Refusals.{refusal_number, unless_refused}
use Rattle.record.specs.Chain.{header_end, records_of}
use Rattle.record.specs.Types.{tile_type, metadata_type}
use Rattle.header.specs.Fields.{grid_rows, grid_columns, tile_rows, tile_columns, element_count, time_modified, checksum_enabled}
use Rattle.header.specs.Names.{longest_name}
use Rattle.header.specs.Element.{element, short_kind, unit_place, unit_length}
use Rattle.geometry.specs.Tiles.{tiles_down, tiles_across}
use Rattle.geometry.specs.Sizes.{tile_bytes}
use Rattle.page_check.specs.Stages.{check}
use Rattle.store.specs.declared.description.Shape.{Shape}
use Rattle.store.specs.declared.description.PageNumbers.{PageNumbers}
use Rattle.store.specs.declared.description.ElementNumbers.{ElementNumbers}

-- the sides of the grid and of a tile, and the number of elements
abbrev pub shape_of : List ℕ → Shape
shape_of s =
    record {
      rows = grid_rows s;
      columns = grid_columns s;
      tile_rows = tile_rows s;
      tile_columns = tile_columns s;
      elements = element_count s;
    }

-- the numbers of a page: beside its shape the tiles each way, the bytes of a tile (U of all elements, document 01, 'House ceilings'), where
-- the header ends, the tile and metadata records in the chain, the time modified, and whether checksums are on, which is 1 or 0
-- in an accepted file (stage 3)
unfoldable pub numbers_of_page : List ℕ → PageNumbers
numbers_of_page s =
    record {
      shape = shape_of s;
      tiles_down = tiles_down s;
      tiles_across = tiles_across s;
      tile_bytes = tile_bytes s;
      front = header_end s;
      tile_records = length (records_of s tile_type);
      metadata_records = length (records_of s metadata_type);
      time_modified = time_modified s;
      checksums = checksum_enabled s;
    }

-- the check's refusal where there is one, else the page's numbers
unfoldable pub described : List ℕ → Result PageNumbers Refusal
described s = unless_refused Err (check s) (Ok (numbers_of_page s))

-- 0, or the refusal's number
abbrev pub described_number : Result PageNumbers Refusal → ℕ
described_number (Ok x) = 0
described_number (Err r) = refusal_number r

-- what element e is, counted from 0: its type code, the bits of its fill, 16 of a Short, and the places and lengths of its name and, by
-- Req 10, of its unit; 10 where there is none
unfoldable pub numbers_of_element : List ℕ → ℕ → ElementNumbers
numbers_of_element s e =
    record {
      kind = (element s e).kind;
      fill = (element s e).fill;
      name = (element s e).name;
      name_length = (element s e).name_length;
      unit = unit_place s e;
      unit_length = unit_length s e;
    }

unfoldable pub specified_by : List ℕ → ℕ → Result ElementNumbers Refusal
specified_by s e = pick (leb (e + 1) (element_count s)) (Ok (numbers_of_element s e)) (Err OutsideGrid)

-- behind the check
unfoldable pub specified : List ℕ → ℕ → Result ElementNumbers Refusal
specified s e = unless_refused Err (check s) (specified_by s e)

abbrev pub specified_number : Result ElementNumbers Refusal → ℕ
specified_number (Ok x) = 0
specified_number (Err r) = refusal_number r

-- what a caller may count on in an accepted file: the front lies in it, checksums are on or off, an element's type code is one of the
-- four, its name lies in the file and has 1 to 32 bytes, and its unit lies in the file
pub record InFile (s : List ℕ) : Type 0 where
  pub front : header_end s ≤ length s
  pub checksums : checksum_enabled s ≤ 1
  pub kind : (e : ℕ) → e < element_count s → (element s e).kind ≤ short_kind
  pub name : (e : ℕ) → e < element_count s → (element s e).name + (element s e).name_length ≤ length s
  pub name_length : (e : ℕ) → e < element_count s → (1 ≤ (element s e).name_length) × ((element s e).name_length ≤ longest_name)
  pub unit : (e : ℕ) → e < element_count s → unit_place s e + unit_length s e ≤ length s

abbrev pub DescribedInFile : Type 0
DescribedInFile = (s : List ℕ) → check s ≡ Ok tt → InFile s
