-- Document 01, 'Laying down a page': what a lay-down answers, and what the buffer holds afterwards.
use Rattle.std.specs.Prelude.{ℕ, ◌+◌, ◌*◌, List, [], ◌∷◌, Bool, true, length, Err, Ok, Result, ⊤}
use Rattle.answer.specs.declared.Refusal.{Refusal}
use Rattle.wire.specs.Tests.{◌≤?◌, ◌≡?◌, ◌≢?◌, is, passes}
use Rattle.answer.specs.declared.Refusal.TheVariants.{Ceiling, Input, Room}
use Rattle.answer.specs.Refusals.{gate, unless_refused}
use Rattle.answer.specs.Answers.{written}
use Rattle.geometry.specs.Tiles.{tile_count}
use Rattle.geometry.specs.Sizes.{tile_bytes}
use Rattle.check_header.specs.Stages.{check_front}
use Rattle.check_header.specs.Ceilings.{most_file_bytes}
use Rattle.lay_down.specs.Page.{file_length, laid_file}

-- the indexes are strictly ascending, the first of them at least `least`, and each is below n
unfoldable pub ascending : ℕ → ℕ → List ℕ → Bool
ascending n least [] = true
ascending n least (i ∷ rest) = passes ((least ≤? i) ∷ (i + 1 ≤? n) ∷ is (ascending n (i + 1) rest) ∷ [])

-- 12 if the time is zero, the indexes are not strictly ascending, one is not below the tile count, or the byte count is not the
-- number of indexes times tile bytes
unfoldable pub input_right : List ℕ → ℕ → List ℕ → List ℕ → Bool
input_right f t ix c = passes ((t ≢? 0) ∷ is (ascending (tile_count f) 0 ix) ∷ (length c ≡? length ix * tile_bytes f) ∷ [])

-- the file does not pass its ceiling; a buffer of so many bytes is not shorter than it
unfoldable pub length_allowed : List ℕ → List ℕ → Bool
length_allowed f ix = passes ((file_length f ix ≤? most_file_bytes) ∷ [])

unfoldable pub fits_in : List ℕ → List ℕ → ℕ → Bool
fits_in f ix room = passes ((file_length f ix ≤? room) ∷ [])

-- 4 if the file would pass its ceiling; then 13 exactly if the buffer is shorter than the file
unfoldable pub length_verdict : List ℕ → List ℕ → ℕ → Result ⊤ Refusal
length_verdict f ix room = gate (length_allowed f ix) Ceiling (gate (fits_in f ix room) Room (Ok tt))

-- 12 before them
unfoldable pub input_verdict : List ℕ → ℕ → List ℕ → List ℕ → ℕ → Result ⊤ Refusal
input_verdict f t ix c room = gate (input_right f t ix c) Input (length_verdict f ix room)

-- before that, the front passes stages 1 to 4 taken by itself
unfoldable pub lay_down_verdict : List ℕ → ℕ → List ℕ → List ℕ → ℕ → Result ⊤ Refusal
lay_down_verdict f t ix c room = unless_refused Err (check_front f) (input_verdict f t ix c room)

-- the answer is the file's length, or the refusal
unfoldable pub laid : List ℕ → ℕ → List ℕ → List ℕ → ℕ → Result ℕ Refusal
laid f t ix c room = unless_refused Err (lay_down_verdict f t ix c room) (Ok (file_length f ix))

-- done, the buffer is the file, and bytes behind it stay; refused, it is as it was
unfoldable pub laid_out : List ℕ → ℕ → List ℕ → List ℕ → List ℕ → List ℕ
laid_out f t ix c out = written (laid f t ix c (length out)) (laid_file f t ix c) out
