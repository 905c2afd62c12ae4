-- G Table 1: the types of records.
use Rattle.std.specs.Prelude.{ℕ}

abbrev pub free_type : ℕ
free_type = 0

abbrev pub metadata_type : ℕ
metadata_type = 1

abbrev pub tile_type : ℕ
tile_type = 2

abbrev pub file_space_directory_type : ℕ
file_space_directory_type = 3

abbrev pub metadata_directory_type : ℕ
metadata_directory_type = 4

abbrev pub tile_directory_type : ℕ
tile_directory_type = 5

abbrev pub header_record_type : ℕ
header_record_type = 6
