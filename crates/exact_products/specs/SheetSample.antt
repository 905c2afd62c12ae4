-- Req 13, a sample: a score sheet of one row and two columns, 900 and -1, moved into a page and out again.
use Rattle.std.specs.Prelude.{ℕ, ◌≡◌, List, [], ◌∷◌, ◌++◌, replicate, Err, Ok}
use Rattle.answer.specs.declared.Refusal.TheVariants.{Input, Room}
use Rattle.lay_down.specs.Sheet.{sheet_laid, sheet_file}
use Rattle.sheets.specs.Back.{sheet_of, sheet_back}
use Rattle.small_pages.specs.Pages.{full_file}

abbrev none : ℕ → List ℕ
none n = replicate n 0

abbrev pub sheet : List ℕ
sheet = 0 ∷ 0 ∷ 0 ∷ 9 ∷ 1 ∷ 0 ∷ 1 ∷ 0 ∷ 2 ∷ 3 ∷ 132 ∷ 255 ∷ 255 ∷ []

-- a header record of 320 bytes behind the identification, with a time modified and a tile directory reference: a grid of 1 by 2, tiles of
-- one cell, checksums off, a Short `z` whose fill is -1
abbrev head_of : ℕ → List ℕ → List ℕ
head_of modified tiles =
    (103 ∷ 118 ∷ 114 ∷ 115 ∷ 32 ∷ 114 ∷ 97 ∷ 115 ∷ 116 ∷ 101 ∷ 114 ∷ 0 ∷ 1 ∷ 4 ∷ 0 ∷ 0 ∷ []) ++ (64 ∷ 1 ∷ 0 ∷ 0 ∷ 6 ∷ 0 ∷ 0 ∷ 0 ∷ [])
    ++ none 16 ++ (modified ∷ []) ++ none 7 ++ none 32 ++ tiles ++ none 6 ++ none 16
    ++ (1 ∷ 0 ∷ 0 ∷ 0 ∷ 2 ∷ 0 ∷ 0 ∷ 0 ∷ 1 ∷ 0 ∷ 0 ∷ 0 ∷ 1 ∷ 0 ∷ 0 ∷ 0 ∷ []) ++ none 160 ++ (1 ∷ 0 ∷ 0 ∷ 0 ∷ [])
    ++ (3 ∷ []) ++ none 7 ++ (1 ∷ 0 ∷ 122 ∷ []) ++ none 8 ++ (255 ∷ 255 ∷ []) ++ none 31

abbrev pub front : List ℕ
front = head_of 0 (none 2)

-- the page: the front with the time 5 and the directory's content at 368; tile 0 at 336, of 24 bytes; the directory at 360, of 48, tile 1
-- absent
abbrev pub score_page : List ℕ
score_page =
    head_of 5 (112 ∷ 1 ∷ [])
    ++ (24 ∷ 0 ∷ 0 ∷ 0 ∷ 2 ∷ 0 ∷ 0 ∷ 0 ∷ 0 ∷ 0 ∷ 0 ∷ 0 ∷ 2 ∷ 0 ∷ 0 ∷ 0 ∷ 132 ∷ 3 ∷ []) ++ none 6
    ++ (48 ∷ 0 ∷ 0 ∷ 0 ∷ 5 ∷ 0 ∷ 0 ∷ 0 ∷ []) ++ none 16 ++ (1 ∷ 0 ∷ 0 ∷ 0 ∷ 2 ∷ 0 ∷ 0 ∷ 0 ∷ 43 ∷ 0 ∷ 0 ∷ 0 ∷ []) ++ none 12

pub record SheetSo : Type 0 where
  -- in: 12 of the time before 13, and a buffer of just the file's length
  pub no_time : sheet_laid front 0 sheet 407 ≡ Err Input
  pub short : sheet_laid front 5 sheet 407 ≡ Err Room
  pub laid : sheet_laid front 5 sheet 408 ≡ Ok 408
  pub file : sheet_file front 5 sheet ≡ score_page
  -- out: 13, just enough, and the same bytes; a page of two elements is 12
  pub short_out : sheet_back score_page 0 12 ≡ Err Room
  pub back : sheet_back score_page 0 13 ≡ Ok 13
  pub same : sheet_of score_page 0 ≡ sheet
  pub two_elements : sheet_back full_file 0 13 ≡ Err Input
