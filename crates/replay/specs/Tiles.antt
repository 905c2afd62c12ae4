-- Req 14, "Show that when no entry is refused, the tiles depend only on the tiles before and the last entry for each index". The tiles are
-- those of Req 03's map, from index to the contents of the elements, not the bytes of the page: places depend on all entries (Req 14,
-- reading 8).
use Rattle.std.specs.Prelude.{ℕ, ◌≡◌, List, [], ◌∷◌, true, eqb, None}
use Rattle.wire.specs.Pick.{pick}
use Rattle.wire.specs.Bytes.{Bytes}
use Rattle.alone.specs.Alone.{SameHeader}
use Rattle.writable.specs.Writable.{open_for_writing}
use Rattle.correct.specs.Front.{page_in}
use Rattle.correct.specs.Storing.{plain_contents}
use Rattle.correct.specs.Calls.{Call, AllGiven, State, page_of}
use Rattle.page_laws.specs.Tiles.{tiles_of}
use Rattle.replay.specs.Entries.{log_calls}
use Rattle.replay.specs.Replay.{replayed, replay_answer, replay_out}
use Rattle.replay.specs.declared.Replayed.TheVariants.{Done}

-- the last call for an index
pub data Last : Type 0 where
  Untouched : Last
  Stored : List ℕ → Last
  Removed : Last

abbrev pub unless_later : Last → Last → Last
unless_later Untouched earlier = earlier
unless_later (Stored c) earlier = Stored c
unless_later Removed earlier = Removed

abbrev pub last_of : Call → ℕ → Last
last_of (Call.Opening t) j = Untouched
last_of (Call.Storing i c) j = pick (eqb j i) (Stored c) Untouched
last_of (Call.Removing i) j = pick (eqb j i) Removed Untouched
last_of (Call.Closing t) j = Untouched
last_of (Call.Squeezing ps) j = Untouched

unfoldable pub last_for : List Call → ℕ → Last
last_for [] j = Untouched
last_for (call ∷ calls) j = unless_later (last_for calls j) (last_of call j)

-- what a tile holds then, of a page s with its sizes
abbrev pub tile_after : List ℕ → List (List ℕ) → Last → List (List ℕ)
tile_after s old Untouched = old
tile_after s old (Stored c) = plain_contents s c
tile_after s old Removed = []

-- the last call for an index decides, of any stores and removals none of which is refused
abbrev pub LastEntry : Type 0
LastEntry =
    (b : List ℕ) (n : ℕ) → Bytes b → open_for_writing (page_in b n) ≡ true → (calls : List Call) → AllGiven calls →
    let start : State = record { buffer = b; long = n } in
    (replayed calls start 0).stop ≡ None → (j : ℕ) →
    tiles_of (page_of (replayed calls start 0).state) j ≡ tile_after (page_in b n) (tiles_of (page_in b n) j) (last_for calls j)

-- so the same last calls, on pages with the same tiles whose headers say the same of a tile's sizes, leave the same tiles
abbrev pub SameTiles : Type 0
SameTiles =
    (b : List ℕ) (n : ℕ) (d : List ℕ) (m : ℕ) → Bytes b → Bytes d → open_for_writing (page_in b n) ≡ true → open_for_writing (page_in d m) ≡ true →
    SameHeader (page_in b n) (page_in d m) → ((j : ℕ) → tiles_of (page_in b n) j ≡ tiles_of (page_in d m) j) →
    (xs ys : List Call) → AllGiven xs → AllGiven ys → ((j : ℕ) → last_for xs j ≡ last_for ys j) →
    (replayed xs (record { buffer = b; long = n }) 0).stop ≡ None → (replayed ys (record { buffer = d; long = m }) 0).stop ≡ None → (j : ℕ) →
    tiles_of (page_of (replayed xs (record { buffer = b; long = n }) 0).state) j ≡ tiles_of (page_of (replayed ys (record { buffer = d; long = m }) 0).state) j

-- the same of a log that is replayed to the end
abbrev pub LogLastEntry : Type 0
LogLastEntry =
    (b : List ℕ) (n : ℕ) (log : List ℕ) → Bytes b → Bytes log → (m k : ℕ) → replay_answer b n log ≡ Done m k → (j : ℕ) →
    tiles_of (page_in (replay_out b n log) m) j ≡ tile_after (page_in b n) (tiles_of (page_in b n) j) (last_for (log_calls (page_in b n) log) j)

-- and of two logs that are replayed to the end on one page
abbrev pub LogsSameTiles : Type 0
LogsSameTiles =
    (b : List ℕ) (n : ℕ) (x y : List ℕ) → Bytes b → Bytes x → Bytes y → (m k p l : ℕ) → replay_answer b n x ≡ Done m k → replay_answer b n y ≡ Done p l →
    ((j : ℕ) → last_for (log_calls (page_in b n) x) j ≡ last_for (log_calls (page_in b n) y) j) → (j : ℕ) →
    tiles_of (page_in (replay_out b n x) m) j ≡ tiles_of (page_in (replay_out b n y) p) j
