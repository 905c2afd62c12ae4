-- G Tables 7 to 12: what the header says of a page and of an element beside the numbers of `store::description`, for any bytes. A text is the
-- place of its bytes, just behind the length field even where there are none, and their number. Values are their bits: they are not judged.
use Rattle.std.specs.Prelude.{ℕ, ◌+◌, List, eqb}
use Rattle.wire.specs.Pick.{pick}
use Rattle.wire.specs.Bytes.{byte_at, number_at, u16_at, u32_at}
use Rattle.header.specs.Fields.{raster_space, coordinate_system}
use Rattle.header.specs.Element.{integer_coded_kind, cell_size, entry_kind, block_at, label_at, description_at, entry_start}
use Rattle.header.specs.Tail.{method_count, product_label_at}
use Rattle.says.specs.declared.further.PageSaid.{PageSaid}
use Rattle.says.specs.declared.further.Texts.{Texts}
use Rattle.says.specs.declared.further.Floats.{Floats}
use Rattle.says.specs.declared.further.ElementSaid.{ElementSaid}

-- Table 7, offset 8: the UUID, 16 bytes
abbrev pub uuid_at : ℕ
uuid_at = 24

abbrev pub uuid_length : ℕ
uuid_length = 16

-- offsets 120 to 263: the coordinates, eighteen Doubles
abbrev pub coordinates_at : ℕ
coordinates_at = 136

abbrev pub coordinates_length : ℕ
coordinates_length = 144

-- of a page: its product label, its UUID's place, the number of its compression methods, raster space, coordinate system, its coordinates
unfoldable pub said_of_page : List ℕ → PageSaid
said_of_page s =
    record {
      label = product_label_at s + 2;
      label_length = u16_at s (product_label_at s);
      uuid = uuid_at;
      methods = method_count s;
      raster_space = raster_space s;
      coordinate_system = coordinate_system s;
      coordinates = coordinates_at;
      coordinates_length = coordinates_length;
    }

-- Table 8, of the entry at `at`: its label and its description
unfoldable pub texts_at : List ℕ → ℕ → Texts
texts_at s at =
    record {
      label = label_at s at + 2;
      label_length = u16_at s (label_at s at);
      description = description_at s at + 2;
      description_length = u16_at s (description_at s at);
    }

-- offset 1: whether it is continuous, the byte as it stands
unfoldable pub continuous_at : List ℕ → ℕ → ℕ
continuous_at s at = byte_at s (at + 1)

-- Tables 9 to 12: where d of the range stands in the block, the minimum at 0 of it and the maximum at 4. An integer-coded element's are its
-- integers, which stand behind its Floats
unfoldable pub range_offset : ℕ → ℕ → ℕ
range_offset kind d = pick (eqb kind integer_coded_kind) (20 + d) d

-- the bits there, of the element's own type: 16 of a Short, else 32
unfoldable pub range_bits : List ℕ → ℕ → ℕ → ℕ
range_bits s at d = number_at (cell_size (entry_kind s at)) s (block_at s at + range_offset (entry_kind s at) d)

-- Table 11: the bits of the Float at d of the block of an integer-coded element; 0 of every other
unfoldable pub coded_bits : List ℕ → ℕ → ℕ → ℕ
coded_bits s at d = pick (eqb (entry_kind s at) integer_coded_kind) (u32_at s (block_at s at + d)) 0

-- all five
unfoldable pub coded_at : List ℕ → ℕ → Floats
coded_at s at =
    record {
      minimum = coded_bits s at 0;
      maximum = coded_bits s at 4;
      fill = coded_bits s at 8;
      scale = coded_bits s at 12;
      offset = coded_bits s at 16;
    }

-- of the entry at `at`
unfoldable pub said_at : List ℕ → ℕ → ElementSaid
said_at s at =
    record {
      texts = texts_at s at;
      continuous = continuous_at s at;
      minimum = range_bits s at 0;
      maximum = range_bits s at 4;
      coded = coded_at s at;
    }

-- of element e, counted from 0
unfoldable pub said_of_element : List ℕ → ℕ → ElementSaid
said_of_element s e = said_at s (entry_start s e)
