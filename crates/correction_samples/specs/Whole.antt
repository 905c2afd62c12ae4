-- Req 03 and Req 05, a sample of calls one behind the other: a file is opened, tile 1 stored, tile 0 removed and the page closed; another
-- opening stands among them and is refused with 5. They are calls of which the power cut speaks, and the corrected file reads as it
-- should.
use Rattle.std.specs.Prelude.{ℕ, ◌≡◌, List, [], ◌∷◌, ◌++◌, Err, None, Ok, Some}
use Rattle.answer.specs.declared.Refusal.TheVariants.{OutsideGrid}
use Rattle.answer.specs.declared.Cell.TheVariants as cell
use Rattle.answer.specs.Values.{value_of}
use Rattle.cells.specs.Meaning.{meaning, content_meaning}
use Rattle.correct.specs.Calls.{Call, State, page_of, after_all}
use Rattle.power.specs.PowerCut.{and_close, Corrects, Cut}
use Rattle.small_pages.specs.Pages.{none, plain_front, at496, at408, free, directory, entry, others, others_tile, full_file}

-- the file in a buffer of 528 bytes
abbrev pub start : State
start = record { buffer = full_file ++ none 72; long = 456 }

abbrev pub calls : List Call
calls = Call.Opening 9 ∷ Call.Storing 1 others ∷ Call.Opening 3 ∷ Call.Removing 0 ∷ []

-- and a closing with 7: tile 1 at 456, the free list at 488
abbrev pub corrected_file : List ℕ
corrected_file =
    plain_front 7 0 at496 at408 ++ free 32 ++ directory 0 58 0 0 ++ others_tile 1
    ++ (32 ∷ 0 ∷ 0 ∷ 0 ∷ 3 ∷ 0 ∷ 0 ∷ 0 ∷ 1 ∷ 0 ∷ 0 ∷ 0 ∷ []) ++ entry 112 1 32 ++ none 8

pub record WholeSample : Type 0 where
  pub corrects : Corrects start calls 7 520
  pub cut : Cut start calls 7 520
  pub page : page_of (after_all (and_close calls 7) start) ≡ corrected_file
  -- the cells of tile 1: `a` at 472, `b` at 480; those of tile 0 are fills; no cell is in row 1
  pub stored_a : (ci : ℕ) → meaning corrected_file ci 0 1 0 ≡ Ok (cell.Stored (value_of 3 513) 472 (record { tile = 1; inside = 0 }))
  pub stored_b : (ci : ℕ) → meaning corrected_file ci 0 1 1 ≡ Ok (cell.Stored (value_of 0 100992003) 480 (record { tile = 1; inside = 0 }))
  pub fill_a : (ci : ℕ) → meaning corrected_file ci 0 0 0 ≡ Ok (cell.Fill (value_of 3 7) (record { tile = 0; inside = 0 }))
  pub fill_b : (ci : ℕ) → meaning corrected_file ci 0 0 1 ≡ Ok (cell.Fill (value_of 0 9) (record { tile = 0; inside = 0 }))
  pub outside : (ci : ℕ) → meaning corrected_file ci 1 0 0 ≡ Err OutsideGrid
  pub content_b : content_meaning corrected_file 1 1 ≡ Ok (Some (record { start = 480; length = 4 }))
  pub no_content : content_meaning corrected_file 0 1 ≡ Ok None
