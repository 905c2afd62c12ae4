-- Document 01, 'Finding a cell', demand 2: what a cell of an accepted file means, by neither route. Behind stages 1 to 8 alone it
-- says what the records mean.
use Rattle.std.specs.Prelude.{ℕ, List, Option, Result}
use Rattle.answer.specs.declared.Extent.{Extent}
use Rattle.answer.specs.declared.Refusal.{Refusal}
use Rattle.answer.specs.declared.Cell.{Cell}
use Rattle.answer.specs.declared.Held.{Held}
use Rattle.tile_routes.specs.Ways.{meant}
use Rattle.cells.specs.Routes.{cell_by, content_by, held_by}

unfoldable pub meaning : List ℕ → ℕ → ℕ → ℕ → ℕ → Result Cell Refusal
meaning s ci row column e = cell_by s ci (meant s) row column e

-- the same of an element's content in a tile
unfoldable pub content_meaning : List ℕ → ℕ → ℕ → Result (Option Extent) Refusal
content_meaning s tile e = content_by s (meant s) tile e

-- and of all its cells
unfoldable pub held_meaning : List ℕ → ℕ → ℕ → ℕ → Result Held Refusal
held_meaning s ci tile e = held_by s ci (meant s) tile e
