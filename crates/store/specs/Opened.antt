-- Document 01, 'Finding a cell': an opened page keeps hold of the file's own bytes and answers many reads. 'Thirteen refusals': a
-- read on it answers as one on the bytes it keeps and never relies on how the page was made. Req 01: it holds the compressor index that
-- its opener named, here `ci`, and reads cells by it.
use Rattle.std.specs.Prelude.{ℕ, ◌-◌, List, Bool, eqb, Err, Option, Result}
use Rattle.answer.specs.declared.Extent.{Extent}
use Rattle.answer.specs.declared.Refusal.{Refusal}
use Rattle.wire.specs.Pick.{pick}
use Rattle.answer.specs.declared.Cell.{Cell}
use Rattle.answer.specs.declared.Cell.TheVariants as cell
use Rattle.answer.specs.Refusals.{unless_refused}
use Rattle.header.specs.Fields.{tile_directory_reference}
use Rattle.record.specs.Chain.{header_end}
use Rattle.page_check.specs.Stages.{check}
use Rattle.tile_routes.specs.declared.Route.{Route}
use Rattle.tile_routes.specs.declared.Route.TheVariants.{Directory, Walk}
use Rattle.tile_routes.specs.Ways.{found_by}
use Rattle.cells.specs.Routes.{cell_by, content_by}
use Rattle.cells.specs.Reads.{read_by_directory, read_by_walk}

-- what a page holds beside the bytes s and the index: positions that they give, 0 where the check refuses them. Where the header ends
unfoldable pub held_end : List ℕ → ℕ
held_end s = unless_refused (λ r. 0) (check s) (header_end s)

-- the tile directory's reference
unfoldable pub held_directory : List ℕ → ℕ
held_directory s = unless_refused (λ r. 0) (check s) (tile_directory_reference s)

-- any page may hold any positions: one is used where it is the bytes' own, else the bytes' own is
unfoldable pub trusted : ℕ → ℕ → ℕ
trusted held own = pick (eqb held own) held own

-- the walk from a held header's end, and the route through the record that a held reference refers to
unfoldable pub walk_from : List ℕ → ℕ → Route
walk_from s end = Walk (trusted end (header_end s))

unfoldable pub through_directory : List ℕ → ℕ → Route
through_directory s directory = Directory (trusted directory (tile_directory_reference s) - 8)

-- a read on a page that holds `ci`, `end` and `directory`, by the walk or through the directory
unfoldable pub page_read : List ℕ → ℕ → ℕ → ℕ → ℕ → ℕ → ℕ → Bool → Result Cell Refusal
page_read s ci end directory row column e walk =
    unless_refused Err (check s) (cell_by s ci (found_by s (pick walk (walk_from s end) (through_directory s directory))) row column e)

unfoldable pub page_content : List ℕ → ℕ → ℕ → ℕ → Result (Option Extent) Refusal
page_content s directory tile e = unless_refused Err (check s) (content_by s (found_by s (through_directory s directory)) tile e)

-- by either route on bytes and an index
unfoldable pub plain_read : List ℕ → ℕ → ℕ → ℕ → ℕ → Bool → Result Cell Refusal
plain_read s ci row column e walk = pick walk (read_by_walk s ci row column e) (read_by_directory s ci row column e)
