-- Req 03: what the calls are judged by. b is the buffer, n the page's length, s the page, t a time, i a tile's index, c the cell bytes of a
-- tile, ps a plan. Req 03, readings 2 and 3, give the order of the refusals.
use Rattle.std.specs.Prelude.{ℕ, ◌+◌, List, [], ◌∷◌, length, Err, Ok, Result, ⊤}
use Rattle.answer.specs.declared.Refusal.{Refusal}
use Rattle.wire.specs.Tests.{◌≤?◌, ◌≡?◌, ◌≢?◌, passes}
use Rattle.answer.specs.declared.Refusal.TheVariants.{Ceiling, OutsideGrid, Input, Room, NotOpen}
use Rattle.answer.specs.Refusals.{gate, unless_refused}
use Rattle.geometry.specs.Tiles.{tile_count}
use Rattle.geometry.specs.Sizes.{tile_bytes}
use Rattle.check_header.specs.Ceilings.{most_file_bytes}
use Rattle.page_check.specs.Stages.{check}
use Rattle.writable.specs.Writable.{open_for_writing}
use Rattle.correct.specs.Front.{page_in, workable}
use Rattle.correct.specs.Plan.{plan_right}

-- "given the page's length (past the buffer: 12, first)" (Req 03, reading 1); then what is judged of the page
unfoldable pub on_page : List ℕ → ℕ → Result ⊤ Refusal → Result ⊤ Refusal
on_page b n behind = gate (passes ((n ≤? length b) ∷ [])) Input behind

-- "Any call but opening on bytes that are no open page .. is new refusal 15, place 0, before all but the length's 12" (Req 03, readings 2
-- and 18)
unfoldable pub on_open_page : List ℕ → ℕ → Result ⊤ Refusal → Result ⊤ Refusal
on_open_page b n behind = on_page b n (gate (open_for_writing (page_in b n)) NotOpen behind)

-- opening hands the check's refusal on, with its place (Req 03, reading 2)
unfoldable pub on_accepted_page : List ℕ → ℕ → Result ⊤ Refusal → Result ⊤ Refusal
on_accepted_page b n behind = on_page b n (unless_refused Err (check (page_in b n)) behind)

-- a page that is taken to be open for writing, or accepted, without a check: 15 where it can be neither
unfoldable pub workable_then : List ℕ → Result ⊤ Refusal → Result ⊤ Refusal
workable_then s behind = gate (workable s) NotOpen behind

-- "an index past the tiles is 10"
unfoldable pub tile_then : List ℕ → ℕ → Result ⊤ Refusal → Result ⊤ Refusal
tile_then s i behind = gate (passes ((i + 1 ≤? tile_count s) ∷ [])) OutsideGrid behind

-- "then a wrong byte count or zero time 12" (Req 03, readings 14 and 15)
unfoldable pub cells_then : List ℕ → List ℕ → Result ⊤ Refusal → Result ⊤ Refusal
cells_then s c behind = gate (passes ((length c ≡? tile_bytes s) ∷ [])) Input behind

unfoldable pub time_then : ℕ → Result ⊤ Refusal → Result ⊤ Refusal
time_then t behind = gate (passes ((t ≢? 0) ∷ [])) Input behind

-- Req 11: "A rejected plan, or one with too few or too many starts, is 12"
unfoldable pub plan_then : List ℕ → List ℕ → Result ⊤ Refusal → Result ⊤ Refusal
plan_then s ps behind = gate (plan_right s ps) Input behind

-- "13 exactly if neither has room, 4 if only the ceiling stands in the way; opening and closing refuse in the same way" (Req 03, reading
-- 3), of the length m that the page would have: 13 if the buffer is shorter, the ceiling passed or not; else 4 if it passes the
-- ceiling. Where a call needs no room, m is the page's own length, which passes both
unfoldable pub room_left : List ℕ → ℕ → Result ⊤ Refusal
room_left b m = gate (passes ((m ≤? length b) ∷ [])) Room (gate (passes ((m ≤? most_file_bytes) ∷ [])) Ceiling (Ok tt))

-- Req 03, reading 1: the answer is the new length, or the refusal
unfoldable pub answered : Result ⊤ Refusal → ℕ → Result ℕ Refusal
answered v m = unless_refused Err v (Ok m)
