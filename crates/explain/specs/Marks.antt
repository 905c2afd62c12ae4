-- For private functions of given.rt; no row rests on it.
-- Marks of tile indexes: where one is 1, the reference of its index is known to be that of a tile record with the index.
use Rattle.std.specs.Prelude.{ℕ, ◌≡◌, true, get_or}
use mathlib.Core.List.{List, Memᴰ}
use Rattle.record.specs.Record.{type_at}
use Rattle.record.specs.Chain.{records}
use Rattle.check_directory.specs.TileRules.{gives_tile}

unfoldable pub Marked : List ℕ → List ℕ → Type 0
Marked s ms = (i : ℕ) → get_or ms i 0 ≡ 1 → gives_tile s i ≡ true

-- a type is that of a record of the chain
pub record OfChain (s : List ℕ) (kind at : ℕ) : Type 0 where
  pub kind_is : kind ≡ type_at s at
  pub member : Memᴰ at (records s)
