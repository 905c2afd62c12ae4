-- What a page says, of some pages: its listing, its numbers and elements, a fill of each type, and cells where the directory is at fault.
use Rattle.std.specs.Prelude.{ℕ, ◌≡◌, List, [], ◌∷◌, ◌++◌, map, Err, Result, Ok}
use Rattle.answer.specs.declared.Refusal.{Refusal}
use Rattle.wire.specs.Bytes.{put}
use Rattle.answer.specs.declared.Refusal.TheVariants as refusal
use Rattle.answer.specs.declared.Cell.{Cell}
use Rattle.answer.specs.declared.Cell.TheVariants as cell
use Rattle.answer.specs.Refusals.{refusal_number, refusal_place}
use Rattle.answer.specs.Answers.{cell_kind, cell_bits, cell_place}
use Rattle.cells.specs.Reads.{read_by_directory, read_by_walk, read_by_records, read_meaning}
use Rattle.store.specs.Description.{numbers_of_page, specified}
use Rattle.listing.specs.Listing.{listing, most_listed}
use Rattle.check_samples.specs.Rows.{ruled}
use Rattle.page_samples.specs.Pages.{order, coded}

-- rows before columns, and indexes ascending whatever the order of the records; `refused 6 at 368`
abbrev pub order_text : List ℕ
order_text =
    (103 ∷ 114 ∷ 105 ∷ 100 ∷ 32 ∷ 49 ∷ 32 ∷ 49 ∷ 50 ∷ 10 ∷ [])
    ++ (116 ∷ 105 ∷ 108 ∷ 101 ∷ 32 ∷ 49 ∷ 32 ∷ 49 ∷ 10 ∷ [])
    ++ (101 ∷ 108 ∷ 101 ∷ 109 ∷ 101 ∷ 110 ∷ 116 ∷ 115 ∷ 32 ∷ 50 ∷ 10 ∷ [])
    ++ (119 ∷ 114 ∷ 105 ∷ 116 ∷ 116 ∷ 101 ∷ 110 ∷ 32 ∷ 51 ∷ 32 ∷ 111 ∷ 102 ∷ 32 ∷ 49 ∷ 50 ∷ 10 ∷ [])
    ++ (50 ∷ 10 ∷ [])
    ++ (49 ∷ 48 ∷ 10 ∷ [])
    ++ (49 ∷ 49 ∷ 10 ∷ [])

abbrev pub refused_text : List ℕ
refused_text = 114 ∷ 101 ∷ 102 ∷ 117 ∷ 115 ∷ 101 ∷ 100 ∷ 32 ∷ 54 ∷ 32 ∷ 97 ∷ 116 ∷ 32 ∷ 51 ∷ 54 ∷ 56 ∷ 10 ∷ []

-- a cell's kind, bits and place
abbrev pub kind_bits_place : Result Cell Refusal → List ℕ
kind_bits_place x = cell_kind x ∷ cell_bits x ∷ cell_place x ∷ []

pub record ToldSo : Type 0 where
  pub order_listed : listing order ≡ order_text
  pub refused_listed : listing (put ruled 372 (6 ∷ [])) ≡ refused_text
  pub most : most_listed ≡ 65536
  pub order_numbers :
      numbers_of_page order
      ≡ record {
        shape = record { rows = 1; columns = 12; tile_rows = 1; tile_columns = 1; elements = 2 };
        tiles_down = 1;
        tiles_across = 12;
        tile_bytes = 6;
        front = 368;
        tile_records = 3;
        metadata_records = 0;
        time_modified = 5;
        checksums = 0;
      }
  -- type, fill, the name's place and length, the unit's place and length, of which `m` is the first element's
  pub first_element : specified (put ruled 312 (1 ∷ 0 ∷ 109 ∷ [])) 0 ≡ Ok (record { kind = 3; fill = 7; name = 294; name_length = 1; unit = 314; unit_length = 1 })
  pub second_element : specified (put ruled 312 (1 ∷ 0 ∷ 109 ∷ [])) 1 ≡ Ok (record { kind = 0; fill = 9; name = 326; name_length = 1; unit = 346; unit_length = 0 })
  pub no_element : specified ruled 2 ≡ Err refusal.OutsideGrid
  -- fills of a Short, an Integer, an integer-coded Float and a Float
  pub short_fill : kind_bits_place (read_meaning ruled 256 0 1 0) ≡ 33 ∷ 7 ∷ 0 ∷ []
  pub integer_fill : kind_bits_place (read_meaning ruled 256 0 1 1) ≡ 33 ∷ 9 ∷ 0 ∷ []
  pub coded_fill : kind_bits_place (read_meaning coded 256 0 0 0) ≡ 33 ∷ 134678021 ∷ 0 ∷ []
  pub float_fill : kind_bits_place (read_meaning coded 256 0 0 1) ≡ 33 ∷ 2143289345 ∷ 0 ∷ []
  -- the directory does not list tile 0: both routes refuse with 9, the walk without stage 9 reads
  pub by_directory : read_by_directory (put ruled 520 (0 ∷ [])) 256 0 0 0 ≡ Err refusal.Directory
  pub by_walk : read_by_walk (put ruled 520 (0 ∷ [])) 256 0 0 0 ≡ Err refusal.Directory
  pub by_records : kind_bits_place (read_by_records (put ruled 520 (0 ∷ [])) 256 0 0 0) ≡ 32 ∷ 9500 ∷ 384 ∷ []

-- the numbers of the refusals and their places: that of stages 6 to 8, 11 and 14 is given, that of stage 9 is 16, any other is 0
pub record Numbered : Type 0 where
  pub check_stages :
      map refusal_number
      (refusal.Identification ∷ refusal.Version ∷ refusal.Header ∷ refusal.Ceiling ∷ refusal.Opened ∷ refusal.Chain 40 ∷ refusal.Checksum 40 ∷ refusal.Body 40
      ∷ refusal.Directory ∷ [])
      ≡ 1 ∷ 2 ∷ 3 ∷ 4 ∷ 5 ∷ 6 ∷ 7 ∷ 8 ∷ 9 ∷ []
  pub others :
      map refusal_number
      (refusal.OutsideGrid ∷ refusal.Compressed 40 ∷ refusal.Input ∷ refusal.Room ∷ refusal.Malformed 40 ∷ refusal.NotOpen ∷ refusal.Incomplete ∷ [])
      ≡ 10 ∷ 11 ∷ 12 ∷ 13 ∷ 14 ∷ 15 ∷ 16 ∷ []
  pub check_places :
      map refusal_place
      (refusal.Identification ∷ refusal.Version ∷ refusal.Header ∷ refusal.Ceiling ∷ refusal.Opened ∷ refusal.Chain 40 ∷ refusal.Checksum 40 ∷ refusal.Body 40
      ∷ refusal.Directory ∷ [])
      ≡ 0 ∷ 0 ∷ 0 ∷ 0 ∷ 0 ∷ 40 ∷ 40 ∷ 40 ∷ 16 ∷ []
  pub other_places :
      map refusal_place
      (refusal.OutsideGrid ∷ refusal.Compressed 40 ∷ refusal.Input ∷ refusal.Room ∷ refusal.Malformed 40 ∷ refusal.NotOpen ∷ refusal.Incomplete ∷ [])
      ≡ 0 ∷ 40 ∷ 0 ∷ 0 ∷ 40 ∷ 0 ∷ 0 ∷ []
