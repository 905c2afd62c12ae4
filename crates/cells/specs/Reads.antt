-- Document 01, 'Thirteen refusals': a cell read answers with the check's refusal if there is one; then 10; then fill, stored, or 11; by
-- Req 01 also unpacked, or 14.
use Rattle.std.specs.Prelude.{ℕ, List, Err, Option, Result}
use Rattle.answer.specs.declared.Extent.{Extent}
use Rattle.answer.specs.declared.Refusal.{Refusal}
use Rattle.answer.specs.declared.Cell.{Cell}
use Rattle.answer.specs.declared.Cell.TheVariants as cell
use Rattle.answer.specs.declared.Held.{Held}
use Rattle.answer.specs.declared.Held.TheVariants as held
use Rattle.answer.specs.Refusals.{unless_refused}
use Rattle.record.specs.Chain.{header_end}
use Rattle.bodies.specs.TileDirectory.{tile_directory_at}
use Rattle.page_check.specs.Stages.{check, check_to_bodies}
use Rattle.tile_routes.specs.Ways.{referred_to, walked_to}
use Rattle.cells.specs.Routes.{cell_by}
use Rattle.cells.specs.Meaning.{meaning, content_meaning, held_meaning}

-- the read through the directory, by the walk, and by the walk without stage 9
unfoldable pub read_by_directory : List ℕ → ℕ → ℕ → ℕ → ℕ → Result Cell Refusal
read_by_directory s ci row column e = unless_refused Err (check s) (cell_by s ci (referred_to s (tile_directory_at s)) row column e)

unfoldable pub read_by_walk : List ℕ → ℕ → ℕ → ℕ → ℕ → Result Cell Refusal
read_by_walk s ci row column e = unless_refused Err (check s) (cell_by s ci (walked_to s (header_end s)) row column e)

unfoldable pub read_by_records : List ℕ → ℕ → ℕ → ℕ → ℕ → Result Cell Refusal
read_by_records s ci row column e = unless_refused Err (check_to_bodies s) (cell_by s ci (walked_to s (header_end s)) row column e)

-- the check's refusal or the meaning
unfoldable pub read_meaning : List ℕ → ℕ → ℕ → ℕ → ℕ → Result Cell Refusal
read_meaning s ci row column e = unless_refused Err (check s) (meaning s ci row column e)

-- and of the walk without stage 9: the refusal of stages 1 to 8, or the meaning, which only the records decide
unfoldable pub records_meaning : List ℕ → ℕ → ℕ → ℕ → ℕ → Result Cell Refusal
records_meaning s ci row column e = unless_refused Err (check_to_bodies s) (meaning s ci row column e)

-- an element's content: where it starts and how long it is. As that part of the file itself it has `content_length` bytes from
-- `content_place` on, none where it is refused or absent
unfoldable pub read_content : List ℕ → ℕ → ℕ → Result (Option Extent) Refusal
read_content s tile e = unless_refused Err (check s) (content_meaning s tile e)

-- all cells of an element in a tile: what is said of them. Their bits are `held_bits` of it
unfoldable pub read_held : List ℕ → ℕ → ℕ → ℕ → Result Held Refusal
read_held s ci tile e = unless_refused Err (check s) (held_meaning s ci tile e)
