-- Req 14: the entries of a log are calls of Req 03. t is the number of bytes of a tile; s is a page.
use Rattle.std.specs.Prelude.{ℕ, List, map, Bool}
use Rattle.wire.specs.Pick.{pick}
use Rattle.correction_logs.specs.Log.{is_store, entry_tile, entry_cells, entries_from, log_right}
use Rattle.geometry.specs.Tiles.{tile_count}
use Rattle.geometry.specs.Sizes.{tile_bytes}
use Rattle.correct.specs.Calls.{Call}

-- the call that the entry at p is
unfoldable pub call_at : ℕ → List ℕ → ℕ → Call
call_at t log p = pick (is_store log p) (Call.Storing (entry_tile log p) (entry_cells t log p)) (Call.Removing (entry_tile log p))

-- the calls from p on
unfoldable pub calls_from : ℕ → ℕ → List ℕ → ℕ → List Call
calls_from m t log p = map (call_at t log) (entries_from m t log p)

-- a log of a page, and its calls
unfoldable pub right_for : List ℕ → List ℕ → Bool
right_for s log = log_right (tile_count s) (tile_bytes s) log

unfoldable pub log_calls : List ℕ → List ℕ → List Call
log_calls s log = calls_from (tile_count s) (tile_bytes s) log 5
