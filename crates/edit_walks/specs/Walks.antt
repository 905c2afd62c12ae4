-- Req 03: what a walk over the records of a page frees and joins, and where a new record goes then.
use Rattle.std.specs.Prelude.{ℕ, List, Bool, not, ◌&&◌, ◌||◌, eqb, None, Option}
use Rattle.wire.specs.Pick.{pick}
use Rattle.record.specs.Types.{file_space_directory_type, tile_directory_type}
use Rattle.record.specs.Record.{type_at}
use Rattle.record.specs.Chain.{starts, header_end}
use Rattle.tile_routes.specs.Ways.{carries}
use Rattle.stores.specs.Stores.{Write}
use Rattle.pieces.specs.Edits.{place_for, room_for}
use Rattle.correct.specs.Storing.{freed_of, tile_referred, stored_over}
use Rattle.correct.specs.RecordWrites.{join_writes}
use Rattle.edit_walks.specs.declared.Spot.{Spot}
use Rattle.edit_walks.specs.declared.Wanted.{Wanted}
use Rattle.edit_walks.specs.declared.Wanted.TheVariants.{Tile, Unwanted}

-- the record at x in s is freed: a tile record with the index, or what opening frees (`unwanted`), where it is told whether the tile
-- directory is full
unfoldable pub wanted_by : List ℕ → Wanted → ℕ → Bool
wanted_by s (Tile i) x = carries s i x
wanted_by s (Unwanted full) x = eqb (type_at s x) file_space_directory_type || (not full && eqb (type_at s x) tile_directory_type)

-- the writes of the walk over the records from x on, with a run that stands open from `from` up to x
unfoldable pub freed_from : ℕ → ℕ → List ℕ → Wanted → ℕ → ℕ → Bool → List Write
freed_from room flag s want from x due = join_writes room flag s (wanted_by s want) from x due (starts s x)

-- Req 03, readings 11 and 12: where a record of n bytes for tile i goes in page s, and the length of the free record that takes it
unfoldable pub spot_of : List ℕ → ℕ → ℕ → Spot
spot_of s i n = record { at = place_for (header_end s) n (freed_of s i); room = room_for n (freed_of s i) }

-- Req 03, reading 10: the tile's record, if it is stored over
unfoldable pub over_at : List ℕ → ℕ → Option ℕ
over_at s i = pick (stored_over s i) (tile_referred s i) None
