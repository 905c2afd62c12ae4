-- The sample sums of Req 09 and Req 10 on cells, as a table: the cells of two pages, by row, column and element; how many rows, columns and elements there
-- are; what the answer says in numbers: its own, whose page's refusal it is, the differing cells or the place; and what stands afterwards in a
-- list that held nines. What asks for whole files is run.
use Rattle.std.specs.Prelude.{ℕ, ◌+◌, ◌*◌, ◌/◌, ◌%◌, ◌≡◌, List, [], ◌∷◌, map, get_or, length, pos, Err, Ok, Result}
use Rattle.answer.specs.declared.Refusal.{Refusal}
use Rattle.wire.specs.Bytes.{put}
use Rattle.answer.specs.declared.Refusal.TheVariants.{Compressed}
use Rattle.answer.specs.declared.Value.TheVariants.{Short}
use Rattle.answer.specs.declared.Location.{Location}
use Rattle.answer.specs.declared.Cell.{Cell}
use Rattle.answer.specs.declared.Cell.TheVariants.{Stored, Fill, Unpacked}
use Rattle.row_lists.specs.Entries.{Tiling, differing_in, listed}
use Rattle.comparisons.specs.declared.Comparison.{Comparison}
use Rattle.comparisons.specs.declared.Comparison.TheVariants.{Count, First, Second, Unlike}
use Rattle.comparisons.specs.Comparisons.{differ_at, compared_in, comparison_number, comparison_page, comparison_count}

pub record Row : Type 0 where
  pub first : List (List (List (Result Cell Refusal)))
  pub second : List (List (List (Result Cell Refusal)))
  pub rows : ℕ
  pub columns : ℕ
  pub elements : ℕ
  pub says : List ℕ
  pub list : List ℕ

-- where a cell says it is, which is not compared
abbrev anywhere : Location
anywhere = record { tile = 0; inside = 0 }

abbrev stored : ℕ → Result Cell Refusal
stored n = Ok (Stored (Short (pos n)) 0 anywhere)

abbrev fill : Result Cell Refusal
fill = Ok (Fill (Short (pos 5)) anywhere)

-- 2 by 3 cells in tiles of 2 by 2, of which the second page has the first tile alone; (0, 2) is stored 5 against fill 5
abbrev first_page : List (List (List (Result Cell Refusal)))
first_page =
    ((stored 1 ∷ []) ∷ (stored 2 ∷ []) ∷ (stored 5 ∷ []) ∷ []) ∷ ((stored 3 ∷ []) ∷ (stored 4 ∷ []) ∷ (stored 6 ∷ []) ∷ []) ∷ []

abbrev second_page : List (List (List (Result Cell Refusal)))
second_page = ((stored 1 ∷ []) ∷ (stored 0 ∷ []) ∷ (fill ∷ []) ∷ []) ∷ ((stored 3 ∷ []) ∷ (stored 0 ∷ []) ∷ (fill ∷ []) ∷ []) ∷ []

-- a cell of two elements, each stored or in a compressed record
abbrev two : Result Cell Refusal → Result Cell Refusal → List (List (List (Result Cell Refusal)))
two a b = ((a ∷ b ∷ []) ∷ []) ∷ []

abbrev compressed : ℕ → Result Cell Refusal
compressed at = Err (Compressed at)

abbrev pages : List (List (List (Result Cell Refusal))) → List (List (List (Result Cell Refusal))) → List ℕ → List ℕ → Row
pages a b said l = record { first = a; second = b; rows = 2; columns = 3; elements = 1; says = said; list = l }

abbrev cells : List (List (List (Result Cell Refusal))) → List (List (List (Result Cell Refusal))) → List ℕ → List ℕ → Row
cells a b said l = record { first = a; second = b; rows = 1; columns = 1; elements = 2; says = said; list = l }

abbrev pub sums : List Row
sums =
    pages first_page second_page (0 ∷ 0 ∷ 4 ∷ []) (0 ∷ 1 ∷ 0 ∷ 0 ∷ 1 ∷ 0 ∷ 2 ∷ 0 ∷ 1 ∷ 0 ∷ 1 ∷ 1 ∷ 0 ∷ 0 ∷ 3 ∷ 1 ∷ 2 ∷ 0 ∷ 1 ∷ 2 ∷ 9 ∷ [])
    ∷ pages first_page second_page (0 ∷ 0 ∷ 4 ∷ []) (9 ∷ 9 ∷ 9 ∷ 9 ∷ [])
    ∷ pages first_page second_page (0 ∷ 0 ∷ 4 ∷ []) (0 ∷ 1 ∷ 0 ∷ 0 ∷ 1 ∷ [])
    ∷ pages first_page second_page (0 ∷ 0 ∷ 4 ∷ []) (0 ∷ 1 ∷ 0 ∷ 0 ∷ 1 ∷ 9 ∷ 9 ∷ 9 ∷ 9 ∷ [])
    ∷ pages first_page second_page (0 ∷ 0 ∷ 4 ∷ []) (0 ∷ 1 ∷ 0 ∷ 0 ∷ 1 ∷ 0 ∷ 2 ∷ 0 ∷ 1 ∷ 0 ∷ [])
    ∷ pages first_page second_page (0 ∷ 0 ∷ 4 ∷ []) []
    ∷ pages second_page first_page (0 ∷ 0 ∷ 4 ∷ []) (0 ∷ 1 ∷ 0 ∷ 0 ∷ 1 ∷ 0 ∷ 2 ∷ 0 ∷ 1 ∷ 0 ∷ 1 ∷ 1 ∷ 0 ∷ 0 ∷ 3 ∷ 1 ∷ 2 ∷ 0 ∷ 1 ∷ 2 ∷ [])
    ∷ pages first_page first_page (0 ∷ 0 ∷ 0 ∷ []) (9 ∷ 9 ∷ 9 ∷ 9 ∷ 9 ∷ [])
    ∷ cells (two (stored 7) (compressed 432)) (two (compressed 440) (compressed 440)) (11 ∷ 2 ∷ 440 ∷ []) (9 ∷ 9 ∷ 9 ∷ 9 ∷ 9 ∷ [])
    ∷ cells (two (compressed 440) (compressed 440)) (two (stored 7) (compressed 432)) (11 ∷ 1 ∷ 440 ∷ []) (9 ∷ 9 ∷ 9 ∷ 9 ∷ 9 ∷ [])
    ∷ cells (two (compressed 440) (stored 7)) (two (compressed 432) (stored 7)) (11 ∷ 1 ∷ 440 ∷ []) (9 ∷ 9 ∷ 9 ∷ 9 ∷ 9 ∷ [])
    ∷ cells (two (stored 7) (stored 8)) (two (Ok (Unpacked (Short (pos 7)) 440 anywhere)) (Ok (Unpacked (Short (pos 9)) 440 anywhere))) (0 ∷ 0 ∷ 1 ∷ []) (0 ∷ 0 ∷ 1 ∷ 0 ∷ 0 ∷ [])
    ∷ []

abbrev sample_cell : List (List (List (Result Cell Refusal))) → ℕ → ℕ → ℕ → Result Cell Refusal
sample_cell page r c e = get_or (get_or (get_or page r []) c []) e fill

-- in tiles of 2 by 2, two of them beside each other
abbrev tiles : Tiling
tiles = record { tile = λ r c. r / 2 * 2 + c / 2; inside = λ r c. r % 2 * 2 + c % 2 }

abbrev row_says : Row → Comparison
row_says x = compared_in (sample_cell x.first) (sample_cell x.second) x.elements 0 x.rows 0 x.columns

abbrev said : Comparison → List ℕ
said x = comparison_number x ∷ comparison_page x ∷ comparison_count x ∷ []

abbrev entries : Row → Comparison → List ℕ
entries x (Count n) = listed tiles (length x.list) (differing_in (differ_at (sample_cell x.first) (sample_cell x.second)) x.elements 0 x.rows 0 x.columns)
entries x (First r) = []
entries x (Second r) = []
entries x Unlike = []

abbrev after : Row → List ℕ
after x = put (map (λ (n : ℕ). 9) x.list) 0 (entries x (row_says x))

pub record SamplesHold : Type 0 where
  pub answers : map (λ (x : Row). said (row_says x)) sums ≡ map (λ (x : Row). x.says) sums
  pub lists : map after sums ≡ map (λ (x : Row). x.list) sums
  pub unlike : said Unlike ≡ 12 ∷ 0 ∷ 0 ∷ []
