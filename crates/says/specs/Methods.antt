-- G Table 7: the names of the compression methods, by index. They are strings of Table 5 that document 01 does not judge.
use Rattle.std.specs.Prelude.{ℕ, ◌+◌, List, [], ◌∷◌, leb}
use Rattle.wire.specs.Pick.{pick}
use Rattle.wire.specs.Bytes.{u16_at}
use Rattle.wire.specs.Items.{advance}
use Rattle.wire.specs.Lists.{below}
use Rattle.header.specs.Fields.{header_limit}
use Rattle.header.specs.Element.{string_end}
use Rattle.header.specs.Tail.{methods_at, method_count}

-- where the name of method k stands; a name that starts past `header_limit` is not read. `product_label_at` is the same at their number
unfoldable pub method_at : List ℕ → ℕ → ℕ
method_at s k = advance (string_end s) (header_limit s) k (methods_at s + 4)

-- where the name behind the one at a position stands; the position itself where it is past `header_limit`
unfoldable pub next_name : List ℕ → ℕ → ℕ
next_name s at = pick (leb at (header_limit s)) (string_end s at) at

-- the place of the name's bytes, just behind the length field, and their number
unfoldable pub method_says : List ℕ → ℕ → List ℕ
method_says s k = (method_at s k + 2) ∷ u16_at s (method_at s k) ∷ []

unfoldable pub method_indexes : List ℕ → List ℕ
method_indexes s = below (method_count s)
