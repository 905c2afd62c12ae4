-- Req 03: what the calls read of a page s before they write, and what storing a tile is to do.
use Rattle.std.specs.Prelude.{ℕ, ◌+◌, ◌≤◌, ◌<◌, ◌≡◌, List, Bool, eqb}
use Rattle.wire.specs.Pick.{pick}
use Rattle.answer.specs.Refusals.{unless_refused}
use Rattle.record.specs.Record.{length_at}
use Rattle.record.specs.Chain.{header_end}
use Rattle.header.specs.Fields.{checksum_enabled}
use Rattle.header.specs.Element.{entries_read}
use Rattle.geometry.specs.Tiles.{tiles_down, tiles_across, tile_count}
use Rattle.geometry.specs.Sizes.{element_bytes, plain_tile_length}
use Rattle.bodies.specs.TileDirectory.{tile_directory_at, reference_size}
use Rattle.writable.specs.Writable.{directory_full}
use Rattle.correct.specs.Front.{page_in}
use Rattle.correct.specs.Storing.{stored_over, stored_length}
use Rattle.correct.specs.RecordWrites.{size_in}
use Rattle.correct.specs.Calls.{Call, change_on}
use Rattle.edit_walks.specs.declared.Spot.{Spot}
use Rattle.edit_walks.specs.Walks.{spot_of, over_at}
use Rattle.calls.specs.declared.Layout.{Layout}
use Rattle.calls.specs.declared.Grid.{Grid}
use Rattle.calls.specs.declared.Plan.{Plan}
use Rattle.calls.specs.declared.Judged.{Judged}
use Rattle.calls.specs.declared.Judged.TheVariants.{Refused, Planned}

-- the tile directory has references of eight bytes
unfoldable pub is_wide : List ℕ → Bool
is_wide s = eqb (reference_size s) 8

unfoldable pub layout_of : List ℕ → Layout
layout_of s =
    record {
      flag = checksum_enabled s;
      end = header_end s;
      directory = tile_directory_at s;
      long = length_at s (tile_directory_at s);
      wide = is_wide s;
    }

-- what opening reads besides
unfoldable pub grid_of : List ℕ → Grid
grid_of s = record { full = directory_full s; down = tiles_down s; across = tiles_across s; count = tile_count s }

-- what storing tile i is to do: the record that it is stored over, or where the new one goes; and how long the page then is
unfoldable pub plan_of : List ℕ → ℕ → Plan
plan_of s i =
    record {
      over = over_at s i;
      spot = pick (stored_over s i) (record { at = 0; room = 0 }) (spot_of s i (plain_tile_length s));
      long = stored_length s i;
    }

-- and what is judged of it, on a page that is taken to be open for writing
unfoldable pub judged_of : List ℕ → ℕ → ℕ → List ℕ → Judged
judged_of b n i c = unless_refused Refused (change_on (Call.Storing i c) b n).verdict (Planned (plan_of (page_in b n) i))

-- us are the uncompressed sizes of the elements
abbrev pub SizesIn : List ℕ → List ℕ → Type 0
SizesIn s us = (e : ℕ) → e < entries_read s → size_in us e ≡ element_bytes s e

-- what is known of the page when a tile is stored anew
pub record NewReady (s : List ℕ) (i : ℕ) (p : Layout) (spot : Spot) (long : ℕ) (us : List ℕ) (count : ℕ) : Type 0 where
  pub layout : p ≡ layout_of s
  pub length_is : long ≡ plain_tile_length s
  pub place : spot ≡ spot_of s i long
  pub sizes : SizesIn s us
  pub count_is : count ≡ entries_read s
  pub near : spot.at + long ≤ 16777216
