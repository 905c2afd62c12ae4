-- Req 09: "A compare tool for two pages with equal grid, tile sides and element types (else 12)." A page is its bytes and the compressor
-- index that the caller names: s and k of the first, t and j of the second. `A r c e` is the cell of the first in row r, column c and
-- element e, `B r c e` that of the second, and n is the number of elements; what is counted or listed goes by the rows from `top` to below
-- `bottom` and the columns from `left` to below `right`.
use Rattle.std.specs.Prelude.{ℕ, List, [], ◌∷◌, Bool, not, eqb, Err, Ok, Result, ⊤}
use Rattle.answer.specs.declared.Refusal.{Refusal}
use Rattle.wire.specs.Pick.{pick}
use Rattle.wire.specs.Tests.{◌≡?◌, is, passes, all_below}
use Rattle.answer.specs.declared.Refusal.TheVariants.{Input}
use Rattle.answer.specs.declared.Cell.{Cell}
use Rattle.answer.specs.Refusals.{refusal_number, refusal_place, unless_refused}
use Rattle.answer.specs.Answers.{cell_kind, cell_bits, cell_verdict}
use Rattle.store.specs.Face.{grid_rows, grid_columns, tile_rows, tile_columns, element_count, element, cell_tile, cell_inside, check, meaning}
use Rattle.blocks.specs.Folds.{fold_below, fold_inside}
use Rattle.row_lists.specs.Entries.{Entry, Tiling, differing_in, count_in, listed}
use Rattle.comparisons.specs.declared.Comparison.{Comparison}
use Rattle.comparisons.specs.declared.Comparison.TheVariants.{Count, First, Second, Unlike}
use Rattle.comparisons.specs.declared.Halt.{Halt}
use Rattle.comparisons.specs.declared.Halt.TheVariants as halt

-- "equal grid, tile sides and element types". Names, fills, ranges, labels, metadata and directories are not compared
unfoldable pub alike : List ℕ → List ℕ → Bool
alike s t =
    passes
    ((grid_rows s ≡? grid_rows t) ∷ (grid_columns s ≡? grid_columns t) ∷ (tile_rows s ≡? tile_rows t) ∷ (tile_columns s ≡? tile_columns t)
    ∷ (element_count s ≡? element_count t) ∷ is (all_below (element_count s) (λ e. eqb (element s e).kind (element t e).kind)) ∷ [])

-- the kind that is compared: "Here and later, stored includes unpacked" (Req 07), so a packed cell and a stored one of equal bits do not
-- differ
unfoldable pub compared_kind : Result Cell Refusal → ℕ
compared_kind x = pick (eqb (cell_kind x) 34) 32 (cell_kind x)

-- "differing in kind or bits": places do not count
unfoldable pub differ : Result Cell Refusal → Result Cell Refusal → Bool
differ x y = not (passes ((compared_kind x ≡? compared_kind y) ∷ (cell_bits x ≡? cell_bits y) ∷ []))

unfoldable pub differ_at : (ℕ → ℕ → ℕ → Result Cell Refusal) → (ℕ → ℕ → ℕ → Result Cell Refusal) → ℕ → ℕ → ℕ → Bool
differ_at A B r c e = differ (A r c e) (B r c e)

-- "then 11 or 14 at the first unreadable cell in that order, on a tie the first page's": by row, then column, then element, the first
-- refusal, and whose page's it is
unfoldable pub join_halt : Halt → Halt → Halt
join_halt halt.None y = y
join_halt (halt.First r) y = halt.First r
join_halt (halt.Second r) y = halt.Second r

unfoldable pub first_halt : Result ⊤ Refusal → Halt
first_halt (Ok accepted) = halt.None
first_halt (Err r) = halt.First r

unfoldable pub second_halt : Result ⊤ Refusal → Halt
second_halt (Ok accepted) = halt.None
second_halt (Err r) = halt.Second r

unfoldable pub cell_halt : Result Cell Refusal → Result Cell Refusal → Halt
cell_halt x y = join_halt (first_halt (cell_verdict x)) (second_halt (cell_verdict y))

unfoldable pub halt_at : (ℕ → ℕ → ℕ → Result Cell Refusal) → (ℕ → ℕ → ℕ → Result Cell Refusal) → ℕ → ℕ → ℕ → Halt
halt_at A B n r c = fold_below join_halt halt.None n (λ e. cell_halt (A r c e) (B r c e))

unfoldable pub halt_in : (ℕ → ℕ → ℕ → Result Cell Refusal) → (ℕ → ℕ → ℕ → Result Cell Refusal) → ℕ → ℕ → ℕ → ℕ → ℕ → Halt
halt_in A B n top bottom left right = fold_inside join_halt halt.None top bottom left right (halt_at A B n)

-- what is said of cells: the first refusal, or "the full number of them"
unfoldable pub unless_halted : Halt → Comparison → Comparison
unless_halted halt.None x = x
unless_halted (halt.First r) x = First r
unless_halted (halt.Second r) x = Second r

unfoldable pub compared_in : (ℕ → ℕ → ℕ → Result Cell Refusal) → (ℕ → ℕ → ℕ → Result Cell Refusal) → ℕ → ℕ → ℕ → ℕ → ℕ → Comparison
compared_in A B n top bottom left right = unless_halted (halt_in A B n top bottom left right) (Count (count_in (differ_at A B) n top bottom left right))

-- of two pages that are alike: all cells of the grid, by their meaning
unfoldable pub compared_pages : List ℕ → ℕ → List ℕ → ℕ → Comparison
compared_pages s k t j = compared_in (meaning s k) (meaning t j) (element_count s) 0 (grid_rows s) 0 (grid_columns s)

-- "The first page's refusal is given before the second's; then that 12; then 11 or 14"
unfoldable pub comparison : List ℕ → ℕ → List ℕ → ℕ → Comparison
comparison s k t j =
    unless_refused First (check s) (unless_refused Second (check t) (pick (alike s t) (compared_pages s k t j) Unlike))

-- "It lists each cell differing in kind or bits once, no other, by row, then column, then element"
unfoldable pub differing_cells : List ℕ → ℕ → List ℕ → ℕ → List Entry
differing_cells s k t j = differing_in (differ_at (meaning s k) (meaning t j)) (element_count s) 0 (grid_rows s) 0 (grid_columns s)

-- the tile of a cell and its number inside, in the first page; the second is cut into tiles alike
unfoldable pub tiling_of : List ℕ → Tiling
tiling_of s = record { tile = cell_tile s; inside = cell_inside s }

-- "The list buffer takes the earliest entries that fit whole": what is written into one of `room` numbers; of a refused call nothing is
abbrev pub written : List ℕ → ℕ → List ℕ → ℕ → ℕ → Comparison → List ℕ
written s k t j room (Count n) = listed (tiling_of s) room (differing_cells s k t j)
written s k t j room (First r) = []
written s k t j room (Second r) = []
written s k t j room Unlike = []

-- an answer in numbers: 0 or the refusal's; whose page's it is, 1 or 2, and 0 where nothing is refused or the pages are unlike; the number
-- of differing cells, or the refusal's place
abbrev pub comparison_number : Comparison → ℕ
comparison_number (Count n) = 0
comparison_number (First r) = refusal_number r
comparison_number (Second r) = refusal_number r
comparison_number Unlike = refusal_number Input

abbrev pub comparison_page : Comparison → ℕ
comparison_page (Count n) = 0
comparison_page (First r) = 1
comparison_page (Second r) = 2
comparison_page Unlike = 0

abbrev pub comparison_count : Comparison → ℕ
comparison_count (Count n) = n
comparison_count (First r) = refusal_place r
comparison_count (Second r) = refusal_place r
comparison_count Unlike = 0
