-- The routes by their numbers: 1 the walk, 2 the walk without stage 9, every other number the directory. `ci` is the compressor index.
use Rattle.std.specs.Prelude.{ℕ, ◌≡◌, List, eqb, Result}
use Rattle.answer.specs.declared.Refusal.{Refusal}
use Rattle.wire.specs.Pick.{pick}
use Rattle.answer.specs.declared.Cell.{Cell}
use Rattle.cells.specs.Reads.{read_by_directory, read_by_walk, read_by_records, read_meaning, records_meaning}

unfoldable pub read_by : ℕ → List ℕ → ℕ → ℕ → ℕ → ℕ → Result Cell Refusal
read_by route s ci row column e =
    pick (eqb route 1) (read_by_walk s ci row column e) (pick (eqb route 2) (read_by_records s ci row column e) (read_by_directory s ci row column e))

-- what a cell means by the route's number: behind stages 1 to 8 for 2, else behind the whole check
unfoldable pub meaning_by : ℕ → List ℕ → ℕ → ℕ → ℕ → ℕ → Result Cell Refusal
meaning_by route s ci row column e = pick (eqb route 2) (records_meaning s ci row column e) (read_meaning s ci row column e)

-- every route gives it
abbrev pub RouteMeans : Type 0
RouteMeans = (route : ℕ) (s : List ℕ) (ci row column e : ℕ) → read_by route s ci row column e ≡ meaning_by route s ci row column e
