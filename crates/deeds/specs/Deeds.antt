-- Req 07, the deeds product: "Given a page, the number of a Short element with scores in thousandths, and a rectangle of cells, it answers
-- certain, doubtful or unread." Req 08: or in ten-thousandths, where the page says so; what is common to both rules is stated over a rule,
-- its mark and its scale. A page is its bytes s and the compressor index `ci`; a rectangle is a first row and column and a number of rows
-- and of columns, each any 64-bit number. `f r c` is the cell in row r and column c of the rectangle, counted from its first, and what is
-- counted goes by the rows from `top` to below `bottom` and the columns from `left` to below `right`.
use Rattle.std.specs.Prelude.{ℕ, ◌+◌, ◌%◌, List, [], ◌∷◌, Bool, true, false, not, eqb, pos, Err, Ok, Result, ⊤, Some, None, Option, ℤ}
use Rattle.std.specs.Int.Signed.{le_z}
use Rattle.std.specs.Int.{w16}
use Rattle.std.proofs.Common.{to_z, of_z}
use Rattle.answer.specs.declared.Refusal.{Refusal}
use Rattle.wire.specs.Pick.{pick}
use Rattle.wire.specs.Tests.{◌≤?◌, ◌≡?◌, is, both, passes}
use Rattle.answer.specs.declared.Refusal.TheVariants.{OutsideGrid, Input}
use Rattle.answer.specs.declared.Cell.{Cell}
use Rattle.answer.specs.Refusals.{refusal_number, refusal_place, unless_refused}
use Rattle.answer.specs.Answers.{cell_kind, cell_bits, cell_verdict}
use Rattle.store.specs.Face.{check, meaning, element, short_kind, rectangle_inside}
use Rattle.score_rule.specs.declared.Said.{Said}
use Rattle.score_rule.specs.declared.Said.TheVariants.{First, Second, Wrong}
use Rattle.score_rule.specs.Rules.{page_says}
use Rattle.blocks.specs.Folds.{fold_inside}
use Rattle.deeds.specs.declared.Rule.{Rule}
use Rattle.deeds.specs.declared.Grade.{Grade}
use Rattle.deeds.specs.declared.Grade.TheVariants.{Certain, Doubtful, Unread}
use Rattle.deeds.specs.declared.Deed.{Deed}

-- a fill is one by its kind, whatever its bits are
unfoldable pub is_fill : Result Cell Refusal → Bool
is_fill x = passes ((cell_kind x ≡? 33) ∷ [])

-- "stored includes unpacked"
unfoldable pub is_stored : Result Cell Refusal → Bool
is_stored x = pick (eqb (cell_kind x) 32) true (eqb (cell_kind x) 34)

-- Req 13, "a stored -1": of 16 bits, whatever the element's fill is
unfoldable pub minus_one : Result Cell Refusal → Bool
minus_one x = passes ((cell_bits x % 65536 ≡? 65535) ∷ [])

-- Req 13, "counts a stored -1 as a fill cell, never a score, under both rules"
unfoldable pub counts_as_fill : Result Cell Refusal → Bool
counts_as_fill x = pick (is_stored x) (minus_one x) (is_fill x)

unfoldable pub is_scored : Result Cell Refusal → Bool
is_scored x = pick (is_stored x) (not (minus_one x)) false

-- the score of a stored cell is its Short's signed number, of 16 bits; a fill, a -1 or a refused cell has none
unfoldable pub score_of : Result Cell Refusal → Option ℤ
score_of x = pick (is_scored x) (Some (to_z w16 (cell_bits x % 65536))) None

-- "the number of fill cells"
unfoldable pub fills_in : ℕ → ℕ → ℕ → ℕ → (ℕ → ℕ → Result Cell Refusal) → ℕ
fills_in top bottom left right f = fold_inside ◌+◌ 0 top bottom left right (λ r c. pick (counts_as_fill (f r c)) 1 0)

-- "the lowest stored score, if any"
unfoldable pub lesser : Option ℤ → Option ℤ → Option ℤ
lesser None y = y
lesser (Some a) None = Some a
lesser (Some a) (Some b) = pick (le_z a b) (Some a) (Some b)

unfoldable pub lowest_in : ℕ → ℕ → ℕ → ℕ → (ℕ → ℕ → Result Cell Refusal) → Option ℤ
lowest_in top bottom left right f = fold_inside lesser None top bottom left right (λ r c. score_of (f r c))

-- "certain exactly if every score is from 900 to 1000", or "from 9,500 to 10,000": a rule has two such numbers as its mark and its scale
unfoldable pub score_within : Rule → Option ℤ → Bool
score_within rule None = true
score_within rule (Some z) = passes (is (le_z rule.mark z) ∷ is (le_z z rule.scale) ∷ [])

unfoldable pub certain_by : Rule → ℕ → ℕ → ℕ → ℕ → (ℕ → ℕ → Result Cell Refusal) → Bool
certain_by rule top bottom left right f = fold_inside both true top bottom left right (λ r c. score_within rule (score_of (f r c)))

abbrev pub from_to : ℕ → ℕ → Rule
from_to mark scale = record { mark = pos mark; scale = pos scale }

unfoldable pub first_rule : Rule
first_rule = from_to 900 1000

unfoldable pub second_rule : Rule
second_rule = from_to 9500 10000

-- "Unread if any cell is fill. Else certain exactly if every score is from" the mark to the scale; "else doubtful." Req 08: "Fill means
-- unread under each."
unfoldable pub grade_from : ℕ → Bool → Grade
grade_from fills certain = pick (passes ((1 ≤? fills) ∷ [])) Unread (pick certain Certain Doubtful)

unfoldable pub grade_by : Rule → ℕ → ℕ → ℕ → ℕ → (ℕ → ℕ → Result Cell Refusal) → Grade
grade_by rule top bottom left right f = grade_from (fills_in top bottom left right f) (certain_by rule top bottom left right f)

-- a deed by its parts
abbrev pub Graded : Rule → Grade → ℕ → Option ℤ → Result Deed Refusal
Graded rule grade fills lowest = Ok (record { rule = rule; grade = grade; fills = fills; lowest = lowest })

unfoldable pub graded : Rule → ℕ → ℕ → ℕ → ℕ → (ℕ → ℕ → Result Cell Refusal) → Result Deed Refusal
graded rule top bottom left right f =
    Graded rule (grade_by rule top bottom left right f) (fills_in top bottom left right f) (lowest_in top bottom left right f)

-- "11 or 14 from the first such cell in row order": of cells by rows the first refusal
unfoldable pub refusal_in : ℕ → ℕ → ℕ → ℕ → (ℕ → ℕ → Result Cell Refusal) → Result ⊤ Refusal
refusal_in top bottom left right f = fold_inside (unless_refused Err) (Ok tt) top bottom left right (λ r c. cell_verdict (f r c))

-- a deed of m rows and n columns, by a rule
unfoldable pub deed_by : Rule → ℕ → ℕ → (ℕ → ℕ → Result Cell Refusal) → Result Deed Refusal
deed_by rule m n f = unless_refused Err (refusal_in 0 m 0 n f) (graded rule 0 m 0 n f)

-- the cells of a rectangle of a page, by their meaning
unfoldable pub cells_of : List ℕ → ℕ → ℕ → ℕ → ℕ → ℕ → ℕ → Result Cell Refusal
cells_of s ci e row column r c = meaning s ci (row + r) (column + c) e

-- "an empty rectangle or another element type is 12"
unfoldable pub rectangle_scored : List ℕ → ℕ → ℕ → ℕ → Bool
rectangle_scored s e rows columns = passes ((1 ≤? rows) ∷ (1 ≤? columns) ∷ ((element s e).kind ≡? short_kind) ∷ [])

-- by the rule that a page says; "any other ID under that name, or both, is 12, beside Req 07's"
unfoldable pub deed_said : Said → ℕ → ℕ → (ℕ → ℕ → Result Cell Refusal) → Result Deed Refusal
deed_said First m n f = deed_by first_rule m n f
deed_said Second m n f = deed_by second_rule m n f
deed_said Wrong m n f = Err Input

-- of a rectangle in the grid: 12, or the deed of its cells
unfoldable pub deed_in : List ℕ → ℕ → ℕ → ℕ → ℕ → ℕ → ℕ → Result Deed Refusal
deed_in s ci e row column rows columns =
    pick (rectangle_scored s e rows columns) (deed_said (page_says s) rows columns (cells_of s ci e row column)) (Err Input)

-- "The check's refusals come first. An element number the page lacks, or a rectangle whose start plus side passes the grid's, is 10; then"
-- 12; then 11 or 14
unfoldable pub deed : List ℕ → ℕ → ℕ → ℕ → ℕ → ℕ → ℕ → Result Deed Refusal
deed s ci e row column rows columns =
    unless_refused Err (check s)
    (pick (rectangle_inside s e row column rows columns) (deed_in s ci e row column rows columns) (Err OutsideGrid))

-- what an answer says in numbers: 64, 65 or 66, or the refusal's number; the number of fill cells; whether there is a lowest score, and its
-- 16 bits; the scale of the rule that it goes by; the refusal's place
abbrev pub grade_number : Grade → ℕ
grade_number Certain = 64
grade_number Doubtful = 65
grade_number Unread = 66

abbrev pub has_lowest : Option ℤ → ℕ
has_lowest (Some z) = 1
has_lowest None = 0

abbrev pub lowest_bits : Option ℤ → ℕ
lowest_bits (Some z) = of_z w16 z
lowest_bits None = 0

abbrev pub deed_number : Result Deed Refusal → ℕ
deed_number (Ok x) = grade_number x.grade
deed_number (Err r) = refusal_number r

abbrev pub deed_fills : Result Deed Refusal → ℕ
deed_fills (Ok x) = x.fills
deed_fills (Err r) = 0

abbrev pub deed_lowest : Result Deed Refusal → Option ℤ
deed_lowest (Ok x) = x.lowest
deed_lowest (Err r) = None

abbrev pub deed_has_lowest : Result Deed Refusal → ℕ
deed_has_lowest x = has_lowest (deed_lowest x)

abbrev pub deed_lowest_bits : Result Deed Refusal → ℕ
deed_lowest_bits x = lowest_bits (deed_lowest x)

abbrev pub deed_scale : Result Deed Refusal → ℕ
deed_scale (Ok x) = of_z w16 x.rule.scale
deed_scale (Err r) = 0

abbrev pub deed_place : Result Deed Refusal → ℕ
deed_place (Ok x) = 0
deed_place (Err r) = refusal_place r
