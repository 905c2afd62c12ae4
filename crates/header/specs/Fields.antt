-- G Table 7, the fields of the header record at fixed places; the record starts at 16. A position is an offset of the
-- table plus 16.
use Rattle.std.specs.Prelude.{ℕ, List}
use Rattle.wire.specs.Bytes.{byte_at, u32_at, u64_at}
use Rattle.record.specs.Record.{record_limit}

-- offset 0
abbrev pub header_length : List ℕ → ℕ
header_length s = u32_at s 16

-- offset 4
abbrev pub header_type : List ℕ → ℕ
header_type s = byte_at s 20

-- offset 24
abbrev pub time_modified : List ℕ → ℕ
time_modified s = u64_at s 40

-- offset 32
abbrev pub time_opened : List ℕ → ℕ
time_opened s = u64_at s 48

-- offset 40
abbrev pub file_space_reference : List ℕ → ℕ
file_space_reference s = u64_at s 56

-- offset 48
abbrev pub metadata_reference : List ℕ → ℕ
metadata_reference s = u64_at s 64

-- offset 64
abbrev pub tile_directory_reference : List ℕ → ℕ
tile_directory_reference s = u64_at s 80

-- offset 88
abbrev pub grid_rows : List ℕ → ℕ
grid_rows s = u32_at s 104

-- offset 92
abbrev pub grid_columns : List ℕ → ℕ
grid_columns s = u32_at s 108

-- offset 96
abbrev pub tile_rows : List ℕ → ℕ
tile_rows s = u32_at s 112

-- offset 100
abbrev pub tile_columns : List ℕ → ℕ
tile_columns s = u32_at s 116

-- offset 112
abbrev pub checksum_enabled : List ℕ → ℕ
checksum_enabled s = byte_at s 128

-- offset 113
abbrev pub raster_space : List ℕ → ℕ
raster_space s = byte_at s 129

-- offset 114
abbrev pub coordinate_system : List ℕ → ℕ
coordinate_system s = byte_at s 130

-- offset 264
abbrev pub element_count : List ℕ → ℕ
element_count s = u32_at s 280

-- where the header's checksum starts, which is that of the record at 16
abbrev pub header_limit : List ℕ → ℕ
header_limit s = record_limit s 16
