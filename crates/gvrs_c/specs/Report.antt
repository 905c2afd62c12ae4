-- What `out` holds behind a call: the answer's numbers in their order, as many as it has room for; what stands behind them stays.
use Rattle.std.specs.Prelude.{ℕ, List, [], ◌∷◌, eqb, Err, Ok, Option, Result}
use Rattle.answer.specs.declared.Extent.{Extent}
use Rattle.answer.specs.declared.Refusal.{Refusal}
use Rattle.answer.specs.declared.Cell.{Cell}
use Rattle.answer.specs.declared.Held.{Held}
use Rattle.answer.specs.Refusals.{refusal_place, verdict_number, verdict_place}
use Rattle.answer.specs.Answers.{cell_type, cell_bits, cell_place, answer_tile, answer_inside, content_place, content_length, held_place}
use Rattle.deeds.specs.declared.Deed.{Deed}
use Rattle.deeds.specs.Deeds.{deed_has_lowest, deed_lowest_bits, deed_scale}
use Rattle.comparisons.specs.declared.Comparison.{Comparison}
use Rattle.comparisons.specs.Comparisons.{comparison_page, comparison_count}
use Rattle.says.specs.declared.lists.Listed.{Listed}
use Rattle.says.specs.Lists.{listed_first, listed_more}
use Rattle.wire.specs.Pick.{pick}
use Rattle.check_start.specs.Start.{check_start, needed}
use Rattle.cells.specs.TileCells.{held_count}

unfoldable pub reported : List ℕ → List ℕ → List ℕ
reported [] out = out
reported (v ∷ vs) [] = []
reported (v ∷ vs) (x ∷ xs) = v ∷ reported vs xs

-- the first half's numbers: its place, and how many first bytes the stage needs that answers 16, else 0
abbrev pub start_numbers : List ℕ → ℕ → List ℕ
start_numbers s n = verdict_place (check_start s n) ∷ pick (eqb (verdict_number (check_start s n)) 16) (needed s n) 0 ∷ []

-- a cell's numbers: its type code, its bits and its place; by Req 10 its tile's index and its number inside the tile
abbrev pub cell_numbers : Result Cell Refusal → List ℕ
cell_numbers x = cell_type x ∷ cell_bits x ∷ cell_place x ∷ answer_tile x ∷ answer_inside x ∷ []

-- a content's: its start, or the refusal's place, and its length
abbrev pub content_numbers : Result (Option Extent) Refusal → List ℕ
content_numbers x = content_place x ∷ content_length x ∷ []

-- of all cells of an element in a tile: where their content starts, or the refusal's place, and how many there are
abbrev pub held_numbers : List ℕ → Result Held Refusal → List ℕ
held_numbers s x = held_place x ∷ held_count s x ∷ []

-- a lay-down's number: the file's length where it is done, and the place of its refusal
abbrev pub laid_report : Result ℕ Refusal → ℕ
laid_report (Ok n) = n
laid_report (Err r) = refusal_place r

-- a deed's: the number of fill cells, or the refusal's place; then whether there is a lowest score, its bits, and the scale
abbrev pub deed_report : Result Deed Refusal → ℕ
deed_report (Ok x) = x.fills
deed_report (Err r) = refusal_place r

abbrev pub deed_numbers : Result Deed Refusal → List ℕ
deed_numbers x = deed_report x ∷ deed_has_lowest x ∷ deed_lowest_bits x ∷ deed_scale x ∷ []

-- a comparison's: the number of differing cells, or the refusal's place, and whose page it is
abbrev pub comparison_numbers : Comparison → List ℕ
comparison_numbers x = comparison_count x ∷ comparison_page x ∷ []

-- a list's: how many items were taken, or the refusal's place, and how many there are from the first that was asked for on
abbrev pub list_numbers : Listed → List ℕ
list_numbers x = listed_first x ∷ listed_more x ∷ []
