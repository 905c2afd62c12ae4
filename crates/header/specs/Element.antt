-- G Tables 5 and 8 to 12: strings and element specification entries, for any bytes.
use Rattle.std.specs.Prelude.{ℕ, ◌+◌, ◌-◌, min, ◌*◌, List, leb, eqb}
use Rattle.wire.specs.Pick.{pick, round_up}
use Rattle.wire.specs.Bytes.{byte_at, number_at, u16_at, part}
use Rattle.wire.specs.Items.{advance}
use Rattle.header.specs.declared.Element.{Element}
use Rattle.header.specs.Fields.{header_limit, element_count}

-- G Table 5: a string is a length of two bytes, and as many bytes
unfoldable pub string_size : List ℕ → ℕ → ℕ
string_size s at = 2 + u16_at s at

unfoldable pub string_end : List ℕ → ℕ → ℕ
string_end s at = at + string_size s at

-- it has at most 2 + 65535 bytes
abbrev pub longest_string : ℕ
longest_string = 65537

-- G Table 8: type codes, 0 Integer, 1 integer-coded, 2 Float, 3 Short; none is above a Short's
abbrev pub integer_coded_kind : ℕ
integer_coded_kind = 1

abbrev pub float_kind : ℕ
float_kind = 2

abbrev pub short_kind : ℕ
short_kind = 3

-- the size of the range and fill block, by type code: 32 bytes integer-coded (Table 11), else 12 (Tables 9, 10; a Short's by
-- document 01, 'Where G disagrees with itself', its three fields of two bytes standing at 0, 4 and 8 as Table 12 prints)
unfoldable pub block_size : ℕ → ℕ
block_size kind = pick (eqb kind integer_coded_kind) 32 12

-- where the fill value stands in the block: at 28 integer-coded, its integer fill (Table 11), else at 8
unfoldable pub fill_offset : ℕ → ℕ
fill_offset kind = pick (eqb kind integer_coded_kind) 28 8

-- G Table 2: the bytes of a value, 2 of a Short, else 4
unfoldable pub cell_size : ℕ → ℕ
cell_size kind = pick (eqb kind short_kind) 2 4

-- G Table 8, of the entry at `at`: the type code at 0, the name at 8, and behind it the range and fill block
abbrev pub entry_kind : List ℕ → ℕ → ℕ
entry_kind s at = byte_at s at

unfoldable pub block_at : List ℕ → ℕ → ℕ
block_at s at = string_end s (at + 8)

-- then zero to three bytes that bring the file position to a multiple of 4, and the label
unfoldable pub label_at : List ℕ → ℕ → ℕ
label_at s at = round_up 4 (block_at s at + block_size (entry_kind s at))

-- then the description and the unit of measure
unfoldable pub description_at : List ℕ → ℕ → ℕ
description_at s at = string_end s (label_at s at)

unfoldable pub unit_at : List ℕ → ℕ → ℕ
unit_at s at = string_end s (description_at s at)

-- then zero to three bytes that bring the entry's size to a multiple of 4
unfoldable pub entry_end : List ℕ → ℕ → ℕ
entry_end s at = at + round_up 4 (string_end s (unit_at s at) - at)

-- it has at most eight bytes before the name, four strings, a block of 32, and twice three bytes
abbrev pub longest_entry : ℕ
longest_entry = 8 + 4 * longest_string + 32 + 3 + 3

-- the bit pattern of the fill value, not clamped to anything
unfoldable pub fill_bits : List ℕ → ℕ → ℕ
fill_bits s at = number_at (cell_size (entry_kind s at)) s (block_at s at + fill_offset (entry_kind s at))

-- the specification of the entry at `at`: type code, place and length of the name, fill bits, end
unfoldable pub entry_at : List ℕ → ℕ → Element
entry_at s at =
    record {
      kind = entry_kind s at;
      name = at + 10;
      name_length = u16_at s (at + 8);
      fill = fill_bits s at;
      end = entry_end s at;
    }

-- G Table 7, offset 268: the entries stand one behind the other from 284 on. Where entry e starts; where an entry
-- before it starts past `header_limit`, the start of the first that does
unfoldable pub entry_start : List ℕ → ℕ → ℕ
entry_start s e = advance (entry_end s) (header_limit s) e 284

-- where the entry behind the one at `at` starts; `at` itself where it is past `header_limit`
unfoldable pub next_entry : List ℕ → ℕ → ℕ
next_entry s at = pick (leb at (header_limit s)) (entry_end s at) at

-- element number e, counted from 0; for an e at or above the count, whatever stands at that start is read as an entry
unfoldable pub element : List ℕ → ℕ → Element
element s e = entry_at s (entry_start s e)

-- its name
unfoldable pub element_name : List ℕ → ℕ → List ℕ
element_name s e = part s (element s e).name (element s e).name_length

-- Req 10: the place of its unit string's bytes, just behind the length field even where there are none, and their number
unfoldable pub unit_place : List ℕ → ℕ → ℕ
unit_place s e = unit_at s (entry_start s e) + 2

unfoldable pub unit_length : List ℕ → ℕ → ℕ
unit_length s e = u16_at s (unit_at s (entry_start s e))

-- document 01, 'House ceilings' and stage 3: a page has at most 16 elements, and at most the first 16 entries are read
abbrev pub most_elements : ℕ
most_elements = 16

unfoldable pub entries_read : List ℕ → ℕ
entries_read s = min (element_count s) most_elements
