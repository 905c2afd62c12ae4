-- What is counted of two pages, a piece, a row of tiles and the grid: d r c e says whether a cell differs, e elements are compared, and
-- the rectangle has n columns.
use Rattle.std.specs.Prelude.{ℕ, ◌+◌, ◌≤◌, ◌<◌, ◌≡◌, List, Bool, ◌⊎◌, length, get_or}
use Rattle.wire.specs.Lists.{count_below}
use Rattle.blocks.specs.Tables.{Inside}
use Rattle.store.specs.declared.many.Rectangle.{Rectangle}
use Rattle.store.specs.declared.pieces.Piece.{Piece}
use Rattle.store.specs.Face.{Walks}
use Rattle.row_lists.specs.Entries.{count_in}
use Rattle.comparisons.specs.declared.Halt.{Halt}
use Rattle.comparisons.specs.declared.Halt.TheVariants.{None}
use Rattle.page_compare.specs.declared.Pair.{Pair}
use Rattle.page_compare.specs.declared.count.Plain.{Plain}
use Rattle.page_compare.specs.declared.count.Plain.TheVariants.{Same}
use Rattle.page_compare.specs.declared.count.Seen.{Seen}
use Rattle.page_compare.specs.declared.count.Seen.TheVariants.{Cells, Halted}
use Rattle.comparisons.specs.Comparisons.{cell_halt}
use Rattle.page_compare.specs.Sides.{area_cells, area_differ, area_halt}

-- no element below e of a cell is refused
pub record NoHalt (s t : List ℕ) (q : Pair) (a : Rectangle) (r c e : ℕ) : Type 0 where
  pub each : (k : ℕ) → k < e → cell_halt (area_cells s q.first a r c k) (area_cells t q.second a r c k) ≡ None

-- in every cell of a piece w of the first k elements differ
pub record Level (d : ℕ → ℕ → ℕ → Bool) (top bottom left right k w : ℕ) : Type 0 where
  pub each : (r c : ℕ) → Inside top bottom left right r c → count_below k (d r c) ≡ w

-- in every cell of a piece equally many elements differ
abbrev pub PlainSays : (ℕ → ℕ → ℕ → Bool) → ℕ → ℕ → ℕ → ℕ → ℕ → Plain → Type 0
PlainSays d e top bottom left right x = (w : ℕ) → x ≡ Same w → (w ≤ e) × ((r c : ℕ) → Inside top bottom left right r c → count_below e (d r c) ≡ w)

-- the counts of the rows from `top` to below `bottom` are small, so that a row more can be added
pub record Small (top bottom : ℕ) (counts : List ℕ) : Type 0 where
  pub long : bottom ≤ top + length counts
  pub each : (i : ℕ) → top + i < bottom → get_or counts i 0 ≤ 1048576

-- what a piece has in each row was added to its count; and so, for each row alike, was `every`
pub record Added (d : ℕ → ℕ → ℕ → Bool) (e top row left right every : ℕ) (old now : List ℕ) : Type 0 where
  pub long : length now ≡ length old
  pub each : (i : ℕ) → top + i < row → get_or now i 0 + every ≡ get_or old i 0 + count_in d e (top + i) (top + i + 1) left right
  pub else : (i : ℕ) → row ≤ top + i → get_or now i 0 ≡ get_or old i 0

abbrev pub AddedTo : (ℕ → ℕ → ℕ → Bool) → ℕ → ℕ → ℕ → ℕ → ℕ → ℕ → List ℕ → Type 0
AddedTo d e top bottom left right every l = (i : ℕ) → top + i < bottom → get_or l i 0 + every ≡ get_or l i 0 + count_in d e (top + i) (top + i + 1) left right

-- the counts of the rows, up to a column, without what was added to each row alike
pub record Counted (d : ℕ → ℕ → ℕ → Bool) (e top bottom column every : ℕ) (counts : List ℕ) : Type 0 where
  pub each : (i : ℕ) → top + i < bottom → get_or counts i 0 + every ≡ count_in d e (top + i) (top + i + 1) 0 column

-- and none of the cells counted is refused, where h says what refusal a cell has
pub record Upto (h : ℕ → ℕ → Halt) (d : ℕ → ℕ → ℕ → Bool) (e top bottom column every : ℕ) (counts : List ℕ) : Type 0 where
  pub counted : Counted d e top bottom column every counts
  pub clear : (r c : ℕ) → Inside top bottom 0 column r c → h r c ≡ None

-- a walk over the pieces of a row of tiles, n columns wide: it stands in it, at a column up to which something holds; or behind it, and it
-- holds up to the last
abbrev pub InBand : ℕ → ℕ → ℕ → ℕ → ℕ → ℕ → (ℕ → Type 0) → Type 0
InBand n top bottom top2 bottom2 left2 f = (((top2 ≡ top) × (bottom2 ≡ bottom)) × f left2) ⊎ ((bottom ≤ top2) × f n)

-- what was counted, where h is no refusal; else h
pub record Says (h : Halt) (f : ℕ → Type 0) (x : Seen) : Type 0 where
  pub cells : (w : ℕ) → x ≡ Cells w → (h ≡ None) × f w
  pub halted : (g : Halt) → x ≡ Halted g → (h ≡ g) × (g ≡ None → ⊥)

-- the first k numbers are 0; the first k of them are `every` more than they were, the others as they were
pub record Cleared (k : ℕ) (counts : List ℕ) : Type 0 where
  pub each : (i : ℕ) → i < k → get_or counts i 0 ≡ 0

pub record EachMore (k every : ℕ) (old now : List ℕ) : Type 0 where
  pub done : (i : ℕ) → i < k → get_or now i 0 ≡ get_or old i 0 + every
  pub waiting : (i : ℕ) → k ≤ i → get_or now i 0 ≡ get_or old i 0

-- a walk over the pieces of the row of tiles from `top` on stands at p, and what it has passed is counted
pub record Along (s t : List ℕ) (q : Pair) (a : Rectangle) (top bottom every : ℕ) (counts : List ℕ) (p : Piece) : Type 0 where
  pub walks : Walks s a top p
  pub band :
      InBand a.columns top bottom p.top p.bottom p.left
      (λ column. Upto (area_halt s t q a) (area_differ s t q a) q.elements top bottom column every counts)
