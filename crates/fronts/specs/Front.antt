-- A front from a description: G Tables 6 to 12, byte for byte. Times, references, levels, coordinates, reserved bytes and padding are
-- zero.
use Rattle.std.specs.Prelude.{ℕ, zero, suc, ◌+◌, ◌-◌, ◌%◌, ◌≤◌, ◌<◌, ◌≡◌, List, [], ◌∷◌, ◌++◌, length, eqb}
use Rattle.wire.specs.Pick.{pick, round_up}
use Rattle.wire.specs.Bytes.{bytes_of, zeros, largest_integer}
use Rattle.record.specs.Types.{header_record_type}
use Rattle.header.specs.Element.{integer_coded_kind, short_kind, block_size}
use Rattle.check_header.specs.Identification.{mark}
use Rattle.written_records.specs.Pieces.{record_of}

-- what is said of an element: its type code, whether it is continuous, its strings, and the numbers of its range and fill block in the
-- order of G Tables 9 to 12, each as 32 bits
pub record Stated : Type 0 where
  pub kind : ℕ
  pub continuous : ℕ
  pub name : List ℕ
  pub label : List ℕ
  pub description : List ℕ
  pub unit : List ℕ
  pub range : ℕ → ℕ

-- what is said of a page
pub record Description : Type 0 where
  pub rows : ℕ
  pub columns : ℕ
  pub tile_rows_lem : ℕ
  pub tile_columns_lem : ℕ
  pub flag : ℕ
  pub uuid : List ℕ
  pub elements : ℕ
  pub element : ℕ → Stated
  pub methods : ℕ
  pub method : ℕ → List ℕ
  pub label : List ℕ

-- f of each number below n, one behind the other
unfoldable pub strung : ℕ → (ℕ → List ℕ) → List ℕ
strung zero f = []
strung (suc n) f = strung n f ++ f n

-- G Table 5
unfoldable pub string_of : List ℕ → List ℕ
string_of t = bytes_of 2 (length t) ++ t

-- G Tables 9 to 12: eight numbers integer-coded, else three, four bytes each; of a Short's only the 16 lowest bits are written, so that
-- its fields of two bytes stand at 0, 4 and 8
unfoldable pub range_count : ℕ → ℕ
range_count kind = pick (eqb kind integer_coded_kind) 8 3

unfoldable pub range_number : ℕ → ℕ → ℕ
range_number kind v = pick (eqb kind short_kind) (v % 65536) v

unfoldable pub block_of : Stated → List ℕ
block_of x = strung (range_count x.kind) (λ i. bytes_of 4 (range_number x.kind (x.range i)))

-- G Table 8: where the block and the strings behind it stand in an entry that starts at a multiple of 4, and how long it is
unfoldable pub label_offset : Stated → ℕ
label_offset x = round_up 4 (10 + length x.name + block_size x.kind)

unfoldable pub texts_end : Stated → ℕ
texts_end x = label_offset x + 6 + length x.label + length x.description + length x.unit

unfoldable pub entry_length : Stated → ℕ
entry_length x = round_up 4 (texts_end x)

unfoldable pub entry_of : Stated → List ℕ
entry_of x =
    (x.kind ∷ x.continuous ∷ []) ++ zeros 6 ++ string_of x.name ++ block_of x
    ++ zeros (label_offset x - (10 + length x.name + block_size x.kind))
    ++ string_of x.label ++ string_of x.description ++ string_of x.unit ++ zeros (entry_length x - texts_end x)

-- G Table 7, from position 24 to 283, and behind the entries
unfoldable pub fixed_of : Description → List ℕ
fixed_of d =
    d.uuid ++ zeros 64 ++ bytes_of 4 d.rows ++ bytes_of 4 d.columns ++ bytes_of 4 d.tile_rows_lem ++ bytes_of 4 d.tile_columns_lem
    ++ zeros 8 ++ (d.flag ∷ []) ++ zeros 151 ++ bytes_of 4 d.elements

unfoldable pub entries_of : Description → ℕ → List ℕ
entries_of d n = strung n (λ e. entry_of (d.element e))

unfoldable pub methods_of : Description → ℕ → List ℕ
methods_of d n = strung n (λ i. string_of (d.method i))

unfoldable pub body_of : Description → List ℕ
body_of d =
    fixed_of d ++ entries_of d d.elements ++ bytes_of 4 d.methods ++ methods_of d d.methods ++ string_of d.label ++ zeros 8

-- G Table 6
unfoldable pub block_bytes : List ℕ
block_bytes = mark ++ (1 ∷ 4 ∷ 0 ∷ 0 ∷ [])

unfoldable pub front_of : Description → List ℕ
front_of d = block_bytes ++ record_of d.flag header_record_type (body_of d)

-- what is said fits its fields
pub record StatedFits (x : Stated) : Type 0 where
  pub kind : x.kind < 256
  pub continuous : x.continuous < 256
  pub name : length x.name < 65536
  pub label : length x.label < 65536
  pub description : length x.description < 65536
  pub unit : length x.unit < 65536
  pub range : (i : ℕ) → x.range i < 4294967296

pub record Fits (d : Description) : Type 0 where
  pub rows : d.rows < 4294967296
  pub columns : d.columns < 4294967296
  pub tile_rows_lem : d.tile_rows_lem < 4294967296
  pub tile_columns_lem : d.tile_columns_lem < 4294967296
  pub flag : d.flag < 256
  pub uuid : length d.uuid ≡ 16
  pub each : (e : ℕ) → e < d.elements → StatedFits (d.element e)
  pub methods : (i : ℕ) → i < d.methods → length (d.method i) < 65536
  pub label : length d.label < 65536
  pub long : length (front_of d) ≤ largest_integer
