-- For the searches of references.rt; no rule of stage 9 rests on it. What is looked for among the records.
use Rattle.std.specs.Prelude.{ℕ, List, Bool, not, eqb}
use Rattle.wire.specs.Tests.{both}
use Rattle.record.specs.Record.{type_at, content_at}
use Rattle.record.specs.Types.{tile_type}
use Rattle.bodies.specs.TileRecord.{tile_index}
use Rattle.bodies.specs.TileDirectory.{tile_reference}

-- a record of a type whose content a reference gives
abbrev pub referred : List ℕ → ℕ → ℕ → ℕ → Bool
referred s kind reference x = both (eqb (type_at s x) kind) (eqb (content_at x) reference)

-- one of the type that it does not give
abbrev pub other : List ℕ → ℕ → ℕ → ℕ → Bool
other s kind reference x = both (eqb (type_at s x) kind) (not (eqb (content_at x) reference))

-- a tile record that is not listed at its own index
abbrev pub unlisted : List ℕ → ℕ → Bool
unlisted s x = both (eqb (type_at s x) tile_type) (not (eqb (tile_reference s (tile_index s x)) (content_at x)))
