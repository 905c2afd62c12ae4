-- Req 13's sample sums, as three tables: bytes, and whether they are a sheet; a rectangle of the sample sheet, and its scores; cells by rows,
-- and the number and place of the first fault.
use Rattle.std.specs.Prelude.{ℕ, ◌≡◌, List, [], ◌∷◌, Bool, true, false, length, get_or, set, ℤ, pos, negsuc, Err, Ok, Result}
use Rattle.answer.specs.declared.Refusal.{Refusal}
use Rattle.score_sheets.specs.Sheet.{sheet_right, sheet_bytes}
use Rattle.score_sheets.specs.Parts.{part_scores}
use Rattle.answer.specs.declared.Refusal.TheVariants.{Compressed, Malformed}
use Rattle.answer.specs.declared.Value.TheVariants.{Short}
use Rattle.answer.specs.declared.Cell.{Cell}
use Rattle.answer.specs.declared.Cell.TheVariants.{Stored, Fill, Unpacked}
use Rattle.answer.specs.Refusals.{verdict_number, verdict_place}
use Rattle.sheets.specs.Back.{fault_in}

-- 2 by 3: 900, -1, 1000 and -1, -1, 0
abbrev pub sheet : List ℕ
sheet = 0 ∷ 0 ∷ 0 ∷ 17 ∷ 1 ∷ 0 ∷ 2 ∷ 0 ∷ 3 ∷ 3 ∷ 132 ∷ 255 ∷ 255 ∷ 3 ∷ 232 ∷ 255 ∷ 255 ∷ 255 ∷ 255 ∷ 0 ∷ 0 ∷ []

-- the sheet as it is; with the length one more, and with its own four bytes counted; version 2; no row; 3 by 2, which is right too; 2 by 2;
-- the last score 1000, 1001, -1 and -2; one score, a byte short
abbrev pub rights : List Bool
rights =
    sheet_right sheet
    ∷ sheet_right (set sheet 3 18)
    ∷ sheet_right (set sheet 3 21)
    ∷ sheet_right (set sheet 4 2)
    ∷ sheet_right (set sheet 6 0)
    ∷ sheet_right (set (set sheet 6 3) 8 2)
    ∷ sheet_right (set sheet 8 2)
    ∷ sheet_right (set (set sheet 19 3) 20 232)
    ∷ sheet_right (set (set sheet 19 3) 20 233)
    ∷ sheet_right (set (set sheet 19 255) 20 255)
    ∷ sheet_right (set (set sheet 19 255) 20 254)
    ∷ sheet_right (0 ∷ 0 ∷ 0 ∷ 6 ∷ 1 ∷ 0 ∷ 1 ∷ 0 ∷ 1 ∷ 3 ∷ [])
    ∷ []

-- with tiles 2 by 2: tile 0 and tile 1, which reaches past the sheet
abbrev pub tiles : List (List ℕ)
tiles = part_scores sheet 0 0 2 2 ∷ part_scores sheet 0 2 2 2 ∷ []

abbrev score : ℤ → Result Cell Refusal
score z = Ok (Stored (Short z) 0 (record { tile = 0; inside = 0 }))

abbrev unpacked_score : ℤ → Result Cell Refusal
unpacked_score z = Ok (Unpacked (Short z) 0 (record { tile = 0; inside = 0 }))

abbrev fill : Result Cell Refusal
fill = Ok (Fill (Short (negsuc 0)) (record { tile = 0; inside = 0 }))

-- the first fault of rows of cells: its number and its place
abbrev first_fault : List (List (Result Cell Refusal)) → ℕ → List ℕ
first_fault rows n =
    let v = fault_in 0 (length rows) 0 n (λ r c. get_or (get_or rows r []) c fill) in
    verdict_number v ∷ verdict_place v ∷ []

-- tiles 2 by 1, of which the first holds 1 and 1001 and the second is compressed, its record at 456: (0, 1) comes before (1, 0); tiles 1 by
-- 1, 1001 before a compressed one, and behind a malformed one; -2; no fault in fills, -1, 0 and 1000, stored and unpacked
abbrev pub faults : List (List ℕ)
faults =
    first_fault ((score (pos 1) ∷ Err (Compressed 456) ∷ []) ∷ (score (pos 1001) ∷ Err (Compressed 456) ∷ []) ∷ []) 2
    ∷ first_fault ((score (pos 1001) ∷ Err (Compressed 456) ∷ []) ∷ []) 2
    ∷ first_fault ((Err (Malformed 432) ∷ unpacked_score (pos 1001) ∷ []) ∷ []) 2
    ∷ first_fault ((fill ∷ score (negsuc 1) ∷ []) ∷ []) 2
    ∷ first_fault ((fill ∷ score (negsuc 0) ∷ []) ∷ (unpacked_score (pos 0) ∷ score (pos 1000) ∷ []) ∷ []) 2
    ∷ []

pub record SamplesHold : Type 0 where
  pub bytes : sheet_bytes 2 3 (λ r c. get_or (get_or ((900 ∷ 65535 ∷ 1000 ∷ []) ∷ (65535 ∷ 65535 ∷ 0 ∷ []) ∷ []) r []) c 0) ≡ sheet
  pub right : rights ≡ true ∷ false ∷ false ∷ false ∷ false ∷ true ∷ false ∷ true ∷ false ∷ true ∷ false ∷ false ∷ []
  pub scores : tiles ≡ (900 ∷ 65535 ∷ 65535 ∷ 65535 ∷ []) ∷ (1000 ∷ 65535 ∷ 0 ∷ 65535 ∷ []) ∷ []
  pub first : faults ≡ (11 ∷ 456 ∷ []) ∷ (12 ∷ 0 ∷ []) ∷ (14 ∷ 432 ∷ []) ∷ (12 ∷ 0 ∷ []) ∷ (0 ∷ 0 ∷ []) ∷ []
