-- The list of what differs, filled: a row of a piece, a piece and a row of tiles of two pages. Assumes nothing.
use Prim.Native.Nat.{ℕ, ◌+◌, ◌-◌, ◌*◌, ◌≤◌, ◌<◌, min}
use mathlib.Core.Path.{◌≡◌, refl, sym, ◌∙◌}
use mathlib.Core.List.{List, [], ◌∷◌}
use mathlib.Core.Bool.{Bool}
use mathlib.Core.Logic.{by_cases}
use native.Mathlib.Decide.{dec_le}
use native.Mathlib.Omega.{arith}
use native.Mathlib.Nat.{mul-le-mul}
use lib.ListN.{length, get_or, set}
use Rattle.wire.specs.Tests.{◌≤?◌}
use Rattle.wire.proofs.TestLaws.{yes, no}
use Rattle.blocks.proofs.BlockLaws.{block_few}
use Rattle.blocks.proofs.InsideLaws.{inside_none, inside_each}
use Rattle.store.specs.declared.many.Rectangle.{Rectangle}
use Rattle.store.specs.declared.pieces.Piece.{Piece}
use Rattle.store.specs.Pieces.{piece_in, first_piece}
use Rattle.store.specs.Face.{tile_rows, tile_columns, Accepts, band_end, AtPiece}
use Rattle.store.proofs.ManyLaws.{sides_accepted}
use Rattle.store.proofs.PieceLaws.{rectangle_small, band_more, cell_tile_lem, tile_few, start_small}
use Rattle.row_lists.specs.Entries.{Tiling, entry_size}
use Rattle.row_lists.specs.Placing.{Cut, cap_of, numbers_at, stretch, next_of, Nexts, Ends, PiecePlaced}
use Rattle.row_lists.proofs.RowLaws.{piece_more, nexts_more, next_here, end_here, piece_plain}
use Rattle.comparisons.specs.declared.Halt.{Halt}
use Rattle.comparisons.specs.declared.Halt.TheVariants as halt
use Rattle.page_compare.specs.declared.Pair.{Pair}
use Rattle.page_compare.specs.declared.count.Plain.{Plain}
use Rattle.page_compare.specs.declared.count.Plain.TheVariants.{Same}
use Rattle.page_compare.specs.declared.count.Seen.{Seen}
use Rattle.page_compare.specs.declared.count.Seen.TheVariants.{Halted}
use Rattle.comparisons.specs.Comparisons.{join_halt}
use Rattle.page_compare.specs.Sides.{area_differ, area_tiling, row_tiling, area_halt, area_halt_in, Both, mark_width}
use Rattle.page_compare.specs.Counting.{PlainSays, Says}
use Rattle.comparisons.proofs.CellLaws.{halts, halts_none}

-- how large a rectangle and a row of a piece are
pub area_few : (s t : List ℕ) (q : Pair) (a : Rectangle) → Both s t q a → (a.rows ≤ 65536) × ((a.columns ≤ 65536) × (q.elements ≤ mark_width))
area_few s t q a b = let m = rectangle_small s a b.first in (omega arith, (omega arith, b.few))

pub row_sides :
    (s t : List ℕ) (q : Pair) (a : Rectangle) (p : Piece) (r : ℕ) → Both s t q a → AtPiece s a p → r < p.bottom →
    (r < 65536) × ((p.left ≤ p.right) × ((p.right ≤ 65536) × (q.elements ≤ mark_width)))
row_sides s t q a p r b o h = let m = area_few s t q a b in let i = o.sides in (omega arith, (omega arith, (omega arith, m.1.1)))

-- the tile and the numbers inside of a row of a piece

module _ (s : List ℕ) (a : Rectangle) (p : Piece) (r start : ℕ) (g : Accepts s a) (o : AtPiece s a p) (h : p.top ≤ r) (k : r < p.bottom)
    (e : start ≡ p.inside + (r - p.top) * tile_columns s)
  where
    pub row_small : (p.tile < 4294967296) × (start < 16777216)
    row_small = (tile_few s a p g o, rw e (start_small s a p r _ g o refl h k))

    pub row_tiled :
        (c : ℕ) → p.left ≤ c → c < p.right →
        ((row_tiling p.tile start p.left).tile r c ≡ (area_tiling s a).tile r c) × ((row_tiling p.tile start p.left).inside r c ≡ (area_tiling s a).inside r c)
    unfolding row_tiling area_tiling
    row_tiled c l u = (cell_tile_lem s a p g o r c (omega arith), rw e (sym (o.numbers r c (omega arith))))

-- a row of a piece: where its entries go, and that they are placed; and a piece in which no cell differs

module _ (s t : List ℕ) (q : Pair) (a : Rectangle) (p : Piece) where
  abbrev d : ℕ → ℕ → ℕ → Bool
  d = area_differ s t q a

  abbrev tiling : Tiling
  tiling = area_tiling s a

  abbrev RowNexts : ℕ → ℕ → List ℕ → Type 0
  RowNexts room r next = Nexts d q.elements a.columns room p.top p.bottom r p.left p.right next

  abbrev RowsPlaced : ℕ → List ℕ → List ℕ → Type 0
  RowsPlaced r was now = PiecePlaced tiling d q.elements a.columns p.top p.bottom r p.left p.right was now

  pub row_next :
      (room r m : ℕ) (next ends : List ℕ) → RowNexts room r next → Ends d q.elements a.columns room p.top p.bottom ends → p.top ≤ r → r < p.bottom → m ≡ room →
      (get_or next (r - p.top) 0 ≡ min m (next_of d q.elements a.columns r p.left))
      × (get_or ends (r - p.top) 0 ≡ min m (next_of d q.elements a.columns r a.columns))
  row_next room r m next ends f g h l o =
      (next_here d _ _ room _ _ _ p.right r (r - p.top) _ m next refl h l o refl f, end_here d _ _ room _ _ r (r - p.top) _ m ends refl h l o refl g)

  pub row_more :
      (room r after m : ℕ) (next was mid now : List ℕ) → AtPiece s a p → RowNexts room r next × RowsPlaced r was mid → p.top ≤ r → r < p.bottom → r - p.top < length next →
      m ≡ room → length mid ≡ length was → after ≡ min m (next_of d q.elements a.columns r p.right) →
      Cut (cap_of mid) (next_of d q.elements a.columns r p.left * entry_size) (stretch (numbers_at tiling d q.elements) r p.left p.right) mid now →
      RowNexts room (r + 1) (set next (r - p.top) after) × RowsPlaced (r + 1) was now
  row_more room r after m next was mid now k f h l u o w x y =
      let j = k.sides in
      (nexts_more d _ _ room _ _ _ _ r (r - p.top) after m next refl h u o x f.0, piece_more tiling d _ _ _ _ _ _ r was mid h l (omega arith) j.1.1.1 w f.1 now y)

  pub piece_passed :
      (x : Plain) (w room : ℕ) (l next : List ℕ) → PlainSays d q.elements p.top p.bottom p.left p.right x → x ≡ Same w → w ≡ 0 → AtPiece s a p →
      RowNexts room p.top next → RowNexts room p.bottom next × RowsPlaced p.bottom l l
  piece_passed x w room l next f y z k g =
      let j = k.sides in
      piece_plain tiling d _ _ _ _ _ _ (λ r c i. (f w y).1 r c i ∙ z) (omega arith) j.1.1.1 room l next (omega arith) g

-- a refusal is none where no cell is refused
pub none_halted : (h g : Halt) (f : ℕ → Type 0) (x : Seen) → Says h f x → x ≡ Halted g → h ≡ halt.None → ⊥
none_halted h g f x y e z = let w = y.halted g e in w.1 (sym w.0 ∙ z)

-- a tile has few cells, and there is room for the marks and the numbers of a piece's rows

module _ (s : List ℕ) (a : Rectangle) (g : Accepts s a) where
  pub cells_few : (x y : ℕ) → x ≡ tile_rows s → y ≡ tile_columns s → x * y ≤ 16777216
  cells_few x y e f =
      let d = sides_accepted s g.accepted in
      let h : x ≤ 4096 = omega (arith, d.tile_rows_lem.1) in
      let k : y ≤ 4096 = omega (arith, d.tile_columns_lem.1) in
      let z : x * y ≤ 4096 * 4096 = mul-le-mul h k in
      omega arith

  pub piece_room :
      (p : Piece) (m n e : ℕ) → AtPiece s a p → 65536 ≤ m → 4096 ≤ n → 4096 ≤ e →
      ((p.right - p.left) * mark_width ≤ m) × ((p.bottom ≤ p.top + n) × (p.bottom ≤ p.top + e))
  piece_room p m n e o h k l =
      let d = sides_accepted s g.accepted in
      (omega (arith, o.narrow, d.tile_columns_lem.1), (omega (arith, o.low, d.tile_rows_lem.1), omega (arith, o.low, d.tile_rows_lem.1)))

  -- a row of tiles has few rows
  pub band_low : (top bottom : ℕ) → bottom ≡ band_end s a top → top < a.rows → (top < bottom) × ((bottom ≤ a.rows) × (bottom - top ≤ 4096))
  band_low top bottom e h =
      let m = band_more s a g top bottom e h in
      let d = sides_accepted s g.accepted in
      (m.0, (m.1.0, omega (arith, block_few a.row top bottom (tile_rows s) m.1.1 d.tile_rows_lem.0, d.tile_rows_lem.1)))

  -- its first piece, if the rectangle has columns
  module _ (top bottom : ℕ) (p : Piece) (e : p ≡ first_piece s a top) (b : bottom ≡ band_end s a top) (h : top < a.rows) where
    none_there : (1 ≤ a.columns → ⊥) → p.top ≡ a.rows
    unfolding first_piece piece_in
    none_there c = rw (e, ← no ((1 ≤? a.columns) ∷ []) (λ y. c y.0))

    one_there : 1 ≤ a.columns → ((p.top ≡ top) × (p.bottom ≡ bottom)) × (p.left ≡ 0)
    unfolding first_piece piece_in
    one_there c = rw (e, b, ← yes ((1 ≤? a.columns) ∷ []) (c, tt)) ((refl, refl), refl)

    pub first_within : p.top < bottom → ((p.top ≡ top) × (p.bottom ≡ bottom)) × (p.left ≡ 0)
    first_within k = by_cases (dec_le 1 a.columns) one_there (λ c. absurd (omega (arith, none_there c, band_low top bottom b h)))

    pub first_behind : bottom ≤ p.top → a.columns ≡ 0
    first_behind k = by_cases (dec_le 1 a.columns) (λ c. absurd (omega (arith, one_there c, band_low top bottom b h))) (λ c. omega arith)

-- where no cell is refused, none of some rows is
pub rows_read :
    (s t : List ℕ) (q : Pair) (a : Rectangle) (rows n top bottom : ℕ) → area_halt_in s t q a 0 rows 0 n ≡ halt.None → bottom ≤ rows → area_halt_in s t q a top bottom 0 n ≡ halt.None
unfolding area_halt_in
rows_read s t q a rows n top bottom e h =
    inside_none join_halt halt.None halts top bottom 0 n (area_halt s t q a)
    (λ r c i. inside_each join_halt halt.None halts_none 0 rows 0 n (area_halt s t q a) e r c (omega arith))
