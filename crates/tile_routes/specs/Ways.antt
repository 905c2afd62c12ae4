-- Document 01, 'Finding a cell': three ways from a tile index to the tile's record, none of which mentions another.
use Rattle.std.specs.Prelude.{ℕ, ◌-◌, List, [], ◌∷◌, Bool, eqb, None, Option, Some}
use Rattle.wire.specs.Pick.{pick}
use Rattle.wire.specs.Tests.{◌≡?◌, passes}
use Rattle.wire.specs.Lists.{select}
use Rattle.record.specs.Record.{type_at}
use Rattle.record.specs.Chain.{records, first_record}
use Rattle.record.specs.Types.{tile_type}
use Rattle.bodies.specs.TileDirectory.{reference_from}
use Rattle.bodies.specs.TileRecord.{tile_index}
use Rattle.tile_routes.specs.declared.Route.{Route}
use Rattle.tile_routes.specs.declared.Route.TheVariants.{Directory, Walk}

-- a tile record that carries the index i
unfoldable pub carries : List ℕ → ℕ → ℕ → Bool
carries s i x = passes ((type_at s x ≡? tile_type) ∷ (tile_index s x ≡? i) ∷ [])

-- by meaning: of the records after the header those that are tile records with index i. An accepted file has one at most; the first
-- counts where a file that stage 9 refuses has several
unfoldable pub records_with : List ℕ → ℕ → List ℕ
records_with s i = select (carries s i) (records s)

abbrev pub first_of : List ℕ → Option ℕ
first_of [] = None
first_of (x ∷ xs) = Some x

unfoldable pub meant : List ℕ → ℕ → Option ℕ
meant s i = first_of (records_with s i)

-- through the tile directory, whose record starts at `at`: a zero reference means no tile, any other is the content of the tile's
-- record, which starts 8 before it
unfoldable pub referred_to : List ℕ → ℕ → ℕ → Option ℕ
referred_to s at i = pick (eqb (reference_from s at i) 0) None (Some (reference_from s at i - 8))

-- by the walk over the chain from `at` on, where the header ends: it stops at the first tile record that carries the index
unfoldable pub walked_to : List ℕ → ℕ → ℕ → Option ℕ
walked_to s at i = first_record s at (carries s i)

-- the two routes that a read may take, by their names
unfoldable pub found_by : List ℕ → Route → ℕ → Option ℕ
found_by s (Directory at) = referred_to s at
found_by s (Walk at) = walked_to s at
