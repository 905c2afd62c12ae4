-- How the call goes: what is held of the elements of a tile in both pages, each with its own part of the memory, and the marks of a row of a
-- piece. Rows and columns count from the rectangle's first.
use Rattle.std.specs.Prelude.{ℕ, ◌+◌, ◌-◌, ◌*◌, ◌≤◌, ◌<◌, ◌≡◌, List, Bool, ◌⊎◌, length, get_or, take, drop, eqb, Ok, Result}
use Rattle.answer.specs.declared.Refusal.{Refusal}
use Rattle.wire.specs.Pick.{pick}
use Rattle.wire.specs.Lists.{one_if}
use Rattle.answer.specs.declared.Cell.{Cell}
use Rattle.answer.specs.declared.Held.{Held}
use Rattle.answer.specs.declared.Held.TheVariants.{Stored}
use Rattle.answer.specs.Answers.{cell_bits}
use Rattle.store.specs.declared.many.Rectangle.{Rectangle}
use Rattle.store.specs.declared.pieces.Piece.{Piece}
use Rattle.store.specs.Face.{element_count, element, cell_tile, cell_inside, meaning, held_cell, numbered_cell, Accepts, of_element, SameGrid, Answered}
use Rattle.blocks.specs.Folds.{fold_inside}
use Rattle.row_lists.specs.Entries.{Tiling, count_in}
use Rattle.comparisons.specs.declared.Comparison.{Comparison}
use Rattle.comparisons.specs.declared.Comparison.TheVariants.{Count}
use Rattle.comparisons.specs.declared.Halt.{Halt}
use Rattle.comparisons.specs.declared.Halt.TheVariants as halt
use Rattle.page_compare.specs.declared.Pair.{Pair}
use Rattle.page_compare.specs.declared.sides.Side.{Side}
use Rattle.comparisons.specs.Comparisons.{compared_kind, differ, differ_at, join_halt, halt_at, unless_halted}

-- the cells of a page in a rectangle, and what is compared of two pages there
unfoldable pub area_cells : List ℕ → ℕ → Rectangle → ℕ → ℕ → ℕ → Result Cell Refusal
area_cells s k a r c e = meaning s k (a.row + r) (a.column + c) e

unfoldable pub area_differ : List ℕ → List ℕ → Pair → Rectangle → ℕ → ℕ → ℕ → Bool
area_differ s t q a r c e = differ_at (area_cells s q.first a) (area_cells t q.second a) r c e

-- the tile of a cell there and its number inside; and those of the columns of a row that lie in a tile, from `left` on
unfoldable pub area_tiling : List ℕ → Rectangle → Tiling
area_tiling s a = record { tile = λ r c. cell_tile s (a.row + r) (a.column + c); inside = λ r c. cell_inside s (a.row + r) (a.column + c) }

unfoldable pub row_tiling : ℕ → ℕ → ℕ → Tiling
row_tiling tile start left = record { tile = λ r c. tile; inside = λ r c. start + (c - left) }

unfoldable pub area_halt : List ℕ → List ℕ → Pair → Rectangle → ℕ → ℕ → Halt
area_halt s t q a r c = halt_at (area_cells s q.first a) (area_cells t q.second a) q.elements r c

unfoldable pub area_halt_in : List ℕ → List ℕ → Pair → Rectangle → ℕ → ℕ → ℕ → ℕ → Halt
area_halt_in s t q a top bottom left right = fold_inside join_halt halt.None top bottom left right (area_halt s t q a)

unfoldable pub area_compared : List ℕ → List ℕ → Pair → Rectangle → Comparison
area_compared s t q a =
    unless_halted (area_halt_in s t q a 0 a.rows 0 a.columns) (Count (count_in (area_differ s t q a) q.elements 0 a.rows 0 a.columns))

-- both pages are accepted, have one grid with the same tiles, and the rectangle lies in it
pub record Both (s t : List ℕ) (q : Pair) (a : Rectangle) : Type 0 where
  pub first : Accepts s a
  pub second : Accepts t a
  pub grid : SameGrid s t
  pub elements : (q.elements ≡ element_count s) × (q.elements ≡ element_count t)
  pub few : q.elements ≤ 16

-- a part of a memory
abbrev pub part_of : List ℕ → ℕ → ℕ → List ℕ
part_of m a b = take (b - a) (drop a m)

-- where nothing but the part from a to below b has changed
pub record Changed (a b : ℕ) (old now : List ℕ) : Type 0 where
  pub long : length now ≡ length old
  pub apart : (c d : ℕ) → (d ≤ a) ⊎ (b ≤ c) → part_of now c d ≡ part_of old c d

-- the part of element e, of tiles of so many cells: the e-th from `low` on where that lies below `high`, else an empty one
pub record PartFor (e cells low high from to : ℕ) : Type 0 where
  pub within : (low ≤ from) × ((to ≤ high) × (to ≤ low + (e + 1) * cells))
  pub starts : (to ≡ low) ⊎ (from ≡ low + e * cells)

-- an element of a tile that no page has: what a place of the array holds that is not read
abbrev pub no_side : Side
no_side = record { held = Ok (Stored 0); kind = 0; fill = 0; from = 0; to = 0 }

-- what is held of element e, with its part of the memory m, answers for a piece
pub record Ready (s : List ℕ) (ci : ℕ) (a : Rectangle) (p : Piece) (e : ℕ) (x : Side) (m : List ℕ) : Type 0 where
  pub part : (x.from ≤ x.to) × (x.to ≤ length m)
  pub kind : x.kind ≡ (element s e).kind
  pub fill : x.fill ≡ (element s e).fill
  pub answered : Answered s ci (of_element a e) p x.held (part_of m x.from x.to)

-- each of the first n elements of a page, with parts from `low` to `high`
pub record PageReady (s : List ℕ) (ci : ℕ) (a : Rectangle) (p : Piece) (n low high : ℕ) (xs : List Side) (m : List ℕ) : Type 0 where
  pub each : (e : ℕ) → e < n → Ready s ci a p e (get_or xs e no_side) m
  pub from_low : (e : ℕ) → e < n → low ≤ (get_or xs e no_side).from
  pub to_high : (e : ℕ) → e < n → (get_or xs e no_side).to ≤ high

-- while they are held one after the other
pub record PageUpto (s : List ℕ) (ci : ℕ) (a : Rectangle) (p : Piece) (e low high cells : ℕ) (xs : List Side) (old now : List ℕ) : Type 0 where
  pub ready : PageReady s ci a p e low high xs now
  pub to_next : (k : ℕ) → k < e → (get_or xs k no_side).to ≤ low + e * cells
  pub changed : Changed low high old now

-- all elements of both pages
pub record BothReady (s t : List ℕ) (q : Pair) (a : Rectangle) (p : Piece) (xs ys : List Side) (m : List ℕ) : Type 0 where
  pub first : (e : ℕ) → e < q.elements → Ready s q.first a p e (get_or xs e no_side) m
  pub second : (e : ℕ) → e < q.elements → Ready t q.second a p e (get_or ys e no_side) m

-- the marks of a row: 16 numbers for each column, 1 for an element that differs there, else 0
abbrev pub mark_width : ℕ
mark_width = 16

unfoldable pub marked : List ℕ → ℕ → ℕ → ℕ → ℕ → Bool
marked m left r c e = eqb (get_or m ((c - left) * mark_width + e) 0) 1

unfoldable pub row_mark : List ℕ → List ℕ → Pair → Rectangle → ℕ → ℕ → ℕ → ℕ → ℕ
row_mark s t q a r left c e = one_if (area_differ s t q a r (left + c) e)

-- the same by what is held: by a tile and the numbers inside it from `start` on; by row and column
unfoldable pub numbered_mark : List ℕ → List ℕ → Side → Side → List ℕ → List ℕ → ℕ → ℕ → ℕ → ℕ → ℕ
numbered_mark s t x y m n tile start c e =
    one_if (differ (numbered_cell s x.kind x.fill m tile (start + c) x.held) (numbered_cell t y.kind y.fill n tile (start + c) y.held))

unfoldable pub held_mark : List ℕ → List ℕ → Pair → Rectangle → Result Held Refusal → Result Held Refusal → List ℕ → List ℕ → ℕ → ℕ → ℕ → ℕ → ℕ → ℕ
held_mark s t q a x y m n r left e c f =
    one_if
    (differ (held_cell s q.first x m (a.row + r) (a.column + (left + c)) e) (held_cell t q.second y n (a.row + r) (a.column + (left + c)) e))

-- how the cells of a piece differ in an element, from what their first ones are and whether both tiles are absent: 0 none, 1 each, 2 each by
-- itself
unfoldable pub sort_of : Bool → Result Cell Refusal → Result Cell Refusal → ℕ
sort_of absent x y = pick (eqb (compared_kind x) (compared_kind y)) (pick absent (pick (eqb (cell_bits x) (cell_bits y)) 0 1) 2) 1
