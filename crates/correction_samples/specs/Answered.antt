-- Req 03, samples: what the calls answer, each refusal where all that are asked behind it are due too, in their order. Each row is a
-- buffer, a page's length and a call. 4 needs a page of more than 16 MiB, and is in `RoomExactly` alone.
use Rattle.std.specs.Prelude.{ℕ, ◌≡◌, List, [], ◌∷◌, ◌++◌, Err, Ok, Result}
use Rattle.answer.specs.declared.Refusal.{Refusal}
use Rattle.answer.specs.declared.Refusal.TheVariants.{Opened, OutsideGrid, Input, Room, NotOpen}
use Rattle.correct.specs.Calls.{Call, answer_of}
use Rattle.small_pages.specs.Pages.{none, others, open_page, partial_file, full_file, full_page}

abbrev asked : List ℕ → ℕ → Call → Result ℕ Refusal
asked b n c = answer_of c (record { buffer = b; long = n })

pub record AnsweredSo : Type 0 where
  -- storing: 12 of the length, 15, 10, 12 of the bytes, 13; over a stored tile no room is needed, and there is just enough
  pub storing :
      asked full_file 457 (Call.Storing 4 []) ∷ asked full_file 456 (Call.Storing 4 []) ∷ asked full_page 456 (Call.Storing 4 [])
      ∷ asked full_page 456 (Call.Storing 1 []) ∷ asked full_page 456 (Call.Storing 1 others) ∷ asked full_page 456 (Call.Storing 0 others)
      ∷ asked (full_page ++ none 31) 456 (Call.Storing 1 others) ∷ asked (full_page ++ none 32) 456 (Call.Storing 1 others) ∷ []
      ≡ Err Input ∷ Err NotOpen ∷ Err OutsideGrid ∷ Err Input ∷ Err Room ∷ Ok 456 ∷ Err Room ∷ Ok 488 ∷ []
  -- removing: 12 of the length, 15, 10; a tile that is stored and one that is not
  pub removing :
      asked full_file 457 (Call.Removing 4) ∷ asked full_file 456 (Call.Removing 4) ∷ asked full_page 456 (Call.Removing 4)
      ∷ asked full_page 456 (Call.Removing 0) ∷ asked full_page 456 (Call.Removing 1) ∷ []
      ≡ Err Input ∷ Err NotOpen ∷ Err OutsideGrid ∷ Ok 456 ∷ Ok 456 ∷ []
  -- opening: 12 of the length, the check's refusal, 12 of the time, 13; where the directory is full no room is needed
  pub opening :
      asked full_page 457 (Call.Opening 0) ∷ asked full_page 456 (Call.Opening 0) ∷ asked partial_file 512 (Call.Opening 0)
      ∷ asked (partial_file ++ none 55) 512 (Call.Opening 9) ∷ asked (partial_file ++ none 56) 512 (Call.Opening 9) ∷ asked full_file 456 (Call.Opening 9)
      ∷ []
      ≡ Err Input ∷ Err Opened ∷ Err Input ∷ Err Room ∷ Ok 568 ∷ Ok 456 ∷ []
  -- closing: 12 of the length, 15, 12 of the time, 13; without a free record no room is needed
  pub closing :
      asked full_file 457 (Call.Closing 0) ∷ asked full_file 456 (Call.Closing 0) ∷ asked open_page 632 (Call.Closing 0)
      ∷ asked (open_page ++ none 63) 632 (Call.Closing 7) ∷ asked (open_page ++ none 64) 632 (Call.Closing 7) ∷ asked full_page 456 (Call.Closing 7) ∷ []
      ≡ Err Input ∷ Err NotOpen ∷ Err Input ∷ Err Room ∷ Ok 696 ∷ Ok 456 ∷ []
