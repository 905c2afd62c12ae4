-- G Table 7, behind the element entries: the number of compression methods, their names, the product label and eight
-- reserved bytes.
use Rattle.std.specs.Prelude.{ℕ, ◌+◌, List}
use Rattle.wire.specs.Bytes.{u32_at}
use Rattle.wire.specs.Items.{advance}
use Rattle.header.specs.Fields.{element_count, header_limit}
use Rattle.header.specs.Element.{string_end, entry_start}

-- where the number of methods stands
unfoldable pub methods_at : List ℕ → ℕ
methods_at s = entry_start s (element_count s)

unfoldable pub method_count : List ℕ → ℕ
method_count s = u32_at s (methods_at s)

-- where the product label stands; a method name that starts past `header_limit` is not read
unfoldable pub product_label_at : List ℕ → ℕ
product_label_at s = advance (string_end s) (header_limit s) (method_count s) (methods_at s + 4)

-- behind the last field, the eight reserved bytes
unfoldable pub fields_end : List ℕ → ℕ
fields_end s = string_end s (product_label_at s) + 8
