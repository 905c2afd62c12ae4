-- What some pages say of themselves, by computing. The definitions are of any bytes: not every page here is one that the check accepts.
use Rattle.std.specs.Prelude.{ℕ, ◌≡◌, List, [], ◌∷◌, None, Some}
use Rattle.wire.specs.Bytes.{put}
use Rattle.exact_cells.specs.PackedPage.{packed_file}
use Rattle.check_samples.specs.Rows.{ruled}
use Rattle.page_samples.specs.Pages.{order, coded}
use Rattle.says.specs.declared.lists.Listed.TheVariants.{Items}
use Rattle.says.specs.Lists.{items_of, item_numbers}
use Rattle.says.specs.Methods.{method_says, method_indexes}
use Rattle.says.specs.Metadata.{metadata_records, metadata_says, metadata_number}
use Rattle.says.specs.Tiles.{stored_tiles, tile_says}
use Rattle.says.specs.Further.{said_of_page, said_of_element}

-- `packed_file` with its elements' types exchanged: in tile 1 the Float alone is packed
abbrev pub exchanged : List ℕ
exchanged = put (put packed_file 284 (2 ∷ [])) 316 (3 ∷ [])

-- `score_rule`, and the same name with another case
abbrev pub rule_name : List ℕ
rule_name = 115 ∷ 99 ∷ 111 ∷ 114 ∷ 101 ∷ 95 ∷ 114 ∷ 117 ∷ 108 ∷ 101 ∷ []

abbrev pub other_case : List ℕ
other_case = 83 ∷ 99 ∷ 111 ∷ 114 ∷ 101 ∷ 95 ∷ 114 ∷ 117 ∷ 108 ∷ 101 ∷ []

-- its record with two bytes of content, and with `d` for a description
abbrev pub with_texts : List ℕ
with_texts = put ruled 425 (2 ∷ 0 ∷ 0 ∷ 0 ∷ 7 ∷ 8 ∷ 1 ∷ 0 ∷ 100 ∷ [])

-- area, Cartesian; two methods, `abc` and one without a name; the product label `m`
abbrev pub with_methods : List ℕ
with_methods = put (put ruled 129 (2 ∷ 1 ∷ [])) 348 (2 ∷ 0 ∷ 0 ∷ 0 ∷ 3 ∷ 0 ∷ 97 ∷ 98 ∷ 99 ∷ 0 ∷ 0 ∷ 1 ∷ 0 ∷ 109 ∷ [])

-- an integer-coded element that is continuous, its Floats 1 to 5, its integers 6 and 7
abbrev pub ranged : List ℕ
ranged =
    put (put coded 285 (1 ∷ [])) 295
    (1 ∷ 0 ∷ 0 ∷ 0 ∷ 2 ∷ 0 ∷ 0 ∷ 0 ∷ 3 ∷ 0 ∷ 0 ∷ 0 ∷ 4 ∷ 0 ∷ 0 ∷ 0 ∷ 5 ∷ 0 ∷ 0 ∷ 0 ∷ 6 ∷ 0 ∷ 0 ∷ 0 ∷ 7 ∷ 0 ∷ 0 ∷ 0 ∷ [])

-- a Short's minimum and maximum, two bytes each, with others behind them; a label `ab`, a description `c`
abbrev pub short_ranged : List ℕ
short_ranged = put (put ruled 295 (1 ∷ 2 ∷ 9 ∷ 9 ∷ 3 ∷ 4 ∷ 9 ∷ 9 ∷ [])) 308 (2 ∷ 0 ∷ 97 ∷ 98 ∷ 1 ∷ 0 ∷ 99 ∷ [])

pub record SaidSo : Type 0 where
  -- index, start, mask and compressor index: ascending, whatever the order of the records
  pub stored_plain :
      item_numbers (tile_says order) 4 0 (stored_tiles order) 12 ≡ 2 ∷ 400 ∷ 0 ∷ 256 ∷ 10 ∷ 432 ∷ 0 ∷ 256 ∷ 11 ∷ 368 ∷ 0 ∷ 256 ∷ []
  pub stored_packed :
      item_numbers (tile_says packed_file) 4 0 (stored_tiles packed_file) 12
      ≡ 0 ∷ 368 ∷ 3 ∷ 7 ∷ 1 ∷ 424 ∷ 1 ∷ 9 ∷ 2 ∷ 496 ∷ 3 ∷ 7 ∷ []
  pub float_packed : tile_says exchanged 1 ≡ 1 ∷ 424 ∷ 1 ∷ 256 ∷ []
  -- as many whole items as fit, and from one on; past the end none of none
  pub eleven : items_of 4 0 (stored_tiles order) 11 ≡ Items 2 3
  pub second : item_numbers (tile_says order) 4 1 (stored_tiles order) 7 ≡ 10 ∷ 432 ∷ 0 ∷ 256 ∷ []
  pub past : items_of 4 3 (stored_tiles order) 12 ≡ Items 0 0
  -- start, name, ID, type, content and description
  pub bare : item_numbers (metadata_says ruled) 9 0 (metadata_records ruled) 9 ≡ 400 ∷ 410 ∷ 10 ∷ 2 ∷ 0 ∷ 429 ∷ 0 ∷ 431 ∷ 0 ∷ []
  pub whole : metadata_says with_texts 400 ≡ 400 ∷ 410 ∷ 10 ∷ 2 ∷ 0 ∷ 429 ∷ 2 ∷ 433 ∷ 1 ∷ []
  pub found : metadata_number ruled rule_name 2 ≡ Some 0
  pub other_id_lem : metadata_number ruled rule_name 1 ≡ None
  pub other_name : metadata_number ruled other_case 2 ≡ None
  -- place and length of each name
  pub methods : item_numbers (method_says with_methods) 2 0 (method_indexes with_methods) 4 ≡ 354 ∷ 3 ∷ 359 ∷ 0 ∷ []
  pub page :
      said_of_page with_methods
      ≡ record {
        label = 361;
        label_length = 1;
        uuid = 24;
        methods = 2;
        raster_space = 2;
        coordinate_system = 1;
        coordinates = 136;
        coordinates_length = 144;
      }
  pub coded_element :
      said_of_element ranged 0
      ≡ record {
        texts = record { label = 330; label_length = 0; description = 332; description_length = 0 };
        continuous = 1;
        minimum = 6;
        maximum = 7;
        coded = record { minimum = 1; maximum = 2; fill = 3; scale = 4; offset = 5 };
      }
  pub short_element :
      said_of_element short_ranged 0
      ≡ record {
        texts = record { label = 310; label_length = 2; description = 314; description_length = 1 };
        continuous = 0;
        minimum = 513;
        maximum = 1027;
        coded = record { minimum = 0; maximum = 0; fill = 0; scale = 0; offset = 0 };
      }
