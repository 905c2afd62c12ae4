-- Req 07's sample sums on cells, as two tables: a rectangle's first row and column and its sides, and what the deed says in numbers: its own,
-- the fill cells, whether there is a lowest score, its bits, the scale, the place. Req 08's, as a third: the rule that a page says, two cells,
-- and what their deed says.
use Rattle.std.specs.Prelude.{ℕ, ◌+◌, ◌≡◌, List, [], ◌∷◌, map, get_or, ℤ, pos, negsuc, Err, Ok, Result}
use Rattle.answer.specs.declared.Refusal.{Refusal}
use Rattle.answer.specs.declared.Refusal.TheVariants.{Compressed}
use Rattle.answer.specs.declared.Value.TheVariants.{Short}
use Rattle.answer.specs.declared.Cell.{Cell}
use Rattle.answer.specs.declared.Cell.TheVariants.{Stored, Fill}
use Rattle.score_rule.specs.declared.Said.{Said}
use Rattle.score_rule.specs.declared.Said.TheVariants.{First, Second, Wrong}
use Rattle.deeds.specs.declared.Deed.{Deed}
use Rattle.deeds.specs.Deeds.{first_rule, deed_by, deed_said, deed_number, deed_fills, deed_has_lowest, deed_lowest_bits, deed_scale, deed_place}

pub record Row : Type 0 where
  pub first_row_lem : ℕ
  pub first_column_lem : ℕ
  pub rows : ℕ
  pub columns : ℕ
  pub says : List ℕ

abbrev pub row : ℕ → ℕ → ℕ → ℕ → List ℕ → Row
row r c m n l = record { first_row_lem = r; first_column_lem = c; rows = m; columns = n; says = l }

abbrev score : ℤ → Result Cell Refusal
score z = Ok (Stored (Short z) 0 (record { tile = 0; inside = 0 }))

-- a fill value that could be a score
abbrev fill : Result Cell Refusal
fill = Ok (Fill (Short (pos 950)) (record { tile = 0; inside = 0 }))

-- 3 by 4 cells in tiles of 2 by 2, of which tile 2 is absent
abbrev page : List (List (Result Cell Refusal))
page =
    (score (pos 900) ∷ score (pos 1000) ∷ score (pos 899) ∷ score (pos 900) ∷ [])
    ∷ (score (pos 950) ∷ score (pos 901) ∷ score (pos 900) ∷ score (pos 900) ∷ [])
    ∷ (fill ∷ fill ∷ score (negsuc 0) ∷ score (pos 1001) ∷ [])
    ∷ []

abbrev pub sums : List Row
sums =
    row 0 0 2 2 (64 ∷ 0 ∷ 1 ∷ 900 ∷ 1000 ∷ 0 ∷ [])
    ∷ row 0 0 2 4 (65 ∷ 0 ∷ 1 ∷ 899 ∷ 1000 ∷ 0 ∷ [])
    ∷ row 1 1 1 3 (64 ∷ 0 ∷ 1 ∷ 900 ∷ 1000 ∷ 0 ∷ [])
    ∷ row 0 0 3 2 (66 ∷ 2 ∷ 1 ∷ 900 ∷ 1000 ∷ 0 ∷ [])
    ∷ row 2 0 1 2 (66 ∷ 2 ∷ 0 ∷ 0 ∷ 1000 ∷ 0 ∷ [])
    ∷ row 2 2 1 2 (66 ∷ 1 ∷ 1 ∷ 1001 ∷ 1000 ∷ 0 ∷ [])
    ∷ row 0 0 3 4 (66 ∷ 3 ∷ 1 ∷ 899 ∷ 1000 ∷ 0 ∷ [])
    ∷ row 2 2 1 1 (66 ∷ 1 ∷ 0 ∷ 0 ∷ 1000 ∷ 0 ∷ [])
    ∷ []

-- 2 by 2 cells, each in a tile of its own: tiles 1 and 2 are compressed, their records at 456 and 432, and tile 3 is absent
abbrev refused_page : List (List (Result Cell Refusal))
refused_page = (score (pos 950) ∷ Err (Compressed 456) ∷ []) ∷ (Err (Compressed 432) ∷ fill ∷ []) ∷ []

abbrev pub refusals : List Row
refusals =
    row 0 0 2 2 (11 ∷ 0 ∷ 0 ∷ 0 ∷ 0 ∷ 456 ∷ [])
    ∷ row 0 0 2 1 (11 ∷ 0 ∷ 0 ∷ 0 ∷ 0 ∷ 432 ∷ [])
    ∷ row 0 0 1 1 (64 ∷ 0 ∷ 1 ∷ 950 ∷ 1000 ∷ 0 ∷ [])
    ∷ row 1 1 1 1 (66 ∷ 1 ∷ 0 ∷ 0 ∷ 1000 ∷ 0 ∷ [])
    ∷ []

abbrev said : Result Deed Refusal → List ℕ
said x = deed_number x ∷ deed_fills x ∷ deed_has_lowest x ∷ deed_lowest_bits x ∷ deed_scale x ∷ deed_place x ∷ []

abbrev judged : List (List (Result Cell Refusal)) → Row → List ℕ
judged cells x = said (deed_by first_rule x.rows x.columns (λ r c. get_or (get_or cells (x.first_row_lem + r) []) (x.first_column_lem + c) fill))

pub record Edition : Type 0 where
  pub rule : Said
  pub cells : List (Result Cell Refusal)
  pub says : List ℕ

abbrev edition : Said → Result Cell Refusal → Result Cell Refusal → List ℕ → Edition
edition rule a b l = record { rule = rule; cells = a ∷ b ∷ []; says = l }

-- a row of two cells: the same scores by either rule, one step off each end of the second, a score of 950, a fill, -1 (Req 13) and -2, a
-- compressed cell
abbrev pub editions : List Edition
editions =
    edition First (score (pos 9500)) (score (pos 10000)) (65 ∷ 0 ∷ 1 ∷ 9500 ∷ 1000 ∷ 0 ∷ [])
    ∷ edition Second (score (pos 9500)) (score (pos 10000)) (64 ∷ 0 ∷ 1 ∷ 9500 ∷ 10000 ∷ 0 ∷ [])
    ∷ edition Wrong (score (pos 9500)) (score (pos 10000)) (12 ∷ 0 ∷ 0 ∷ 0 ∷ 0 ∷ 0 ∷ [])
    ∷ edition Second (score (pos 9499)) (score (pos 10000)) (65 ∷ 0 ∷ 1 ∷ 9499 ∷ 10000 ∷ 0 ∷ [])
    ∷ edition Second (score (pos 9500)) (score (pos 10001)) (65 ∷ 0 ∷ 1 ∷ 9500 ∷ 10000 ∷ 0 ∷ [])
    ∷ edition Second (score (pos 950)) (score (pos 950)) (65 ∷ 0 ∷ 1 ∷ 950 ∷ 10000 ∷ 0 ∷ [])
    ∷ edition First (score (pos 950)) (score (pos 950)) (64 ∷ 0 ∷ 1 ∷ 950 ∷ 1000 ∷ 0 ∷ [])
    ∷ edition Second fill (score (pos 9600)) (66 ∷ 1 ∷ 1 ∷ 9600 ∷ 10000 ∷ 0 ∷ [])
    ∷ edition Second (score (negsuc 0)) (score (pos 9600)) (66 ∷ 1 ∷ 1 ∷ 9600 ∷ 10000 ∷ 0 ∷ [])
    ∷ edition Second (score (negsuc 1)) (score (pos 9600)) (65 ∷ 0 ∷ 1 ∷ 65534 ∷ 10000 ∷ 0 ∷ [])
    ∷ edition Second (Err (Compressed 432)) (score (pos 9600)) (11 ∷ 0 ∷ 0 ∷ 0 ∷ 0 ∷ 432 ∷ [])
    ∷ edition Wrong (Err (Compressed 432)) (score (pos 9600)) (12 ∷ 0 ∷ 0 ∷ 0 ∷ 0 ∷ 0 ∷ [])
    ∷ []

abbrev judged_said : Edition → List ℕ
judged_said x = said (deed_said x.rule 1 2 (λ r c. get_or x.cells c fill))

pub record SamplesHold : Type 0 where
  pub graded : map (judged page) sums ≡ map (λ (x : Row). x.says) sums
  pub refused : map (judged refused_page) refusals ≡ map (λ (x : Row). x.says) refusals
  pub editions_graded : map judged_said editions ≡ map (λ (x : Edition). x.says) editions
