-- The marks of a row of a piece: an element, all of them, and what they say. Assumes nothing.
use Rattle.std.specs.Prelude.{Result}
use Rattle.answer.specs.declared.Refusal.{Refusal}
use Prim.Native.Nat.{ℕ, ◌+◌, ◌-◌, ◌*◌, ◌≤◌, ◌<◌}
use mathlib.Core.Path.{◌≡◌, refl, ap, ◌∙◌}
use mathlib.Core.List.{List}
use mathlib.Core.Bool.{Bool, true, false}
use native.Mathlib.Omega.{arith}
use lib.ListN.{length, set}
use lib.Dec.{eqb}
use Rattle.wire.specs.Lists.{one_if}
use Rattle.answer.specs.declared.Cell.{Cell}
use Rattle.answer.specs.declared.Held.{Held}
use Rattle.answer.specs.Answers.{held_kind}
use Rattle.blocks.specs.Tables.{Inside, Filled}
use Rattle.blocks.proofs.TableLaws.{place_less, filled_none, filled_one, filled_under, filled_beside, filled_as}
use Rattle.store.specs.declared.many.Rectangle.{Rectangle}
use Rattle.store.specs.declared.pieces.Piece.{Piece}
use Rattle.store.specs.Face.{tile_columns, meaning, held_cell, numbered_cell, of_element, Numbered}
use Rattle.store.proofs.PieceLaws.{numbered_row}
use Rattle.page_compare.specs.declared.Pair.{Pair}
use Rattle.page_compare.specs.declared.sides.Side.{Side}
use Rattle.comparisons.specs.Comparisons.{differ, differ_at}
use Rattle.page_compare.specs.Sides.{area_cells, area_differ, Both, part_of, Ready, mark_width, marked, row_mark, numbered_mark, held_mark}

-- an element, column by column

module _ {g : ℕ → ℕ → ℕ} (e : ℕ) where
  pub marks_none : (l : List ℕ) → Filled mark_width g (Inside 0 0 e (e + 1)) l l
  marks_none l = filled_none l (λ r c h. omega arith)

  pub marks_more :
      (c v : ℕ) (l m now : List ℕ) → Filled mark_width g (Inside 0 c e (e + 1)) l m → now ≡ set m (c * mark_width + e) v → v ≡ g c e → e < mark_width → c * mark_width + e < length l →
      Filled mark_width g (Inside 0 (c + 1) e (e + 1)) l now
  marks_more c v l m now f q h k w = rw q (filled_under f (filled_one c e v m h (omega (arith, f.long))) (omega arith) (omega arith) (omega arith))

  pub marks_end : (c n : ℕ) (l m : List ℕ) → Filled mark_width g (Inside 0 c e (e + 1)) l m → c ≡ n → Filled mark_width g (Inside 0 n e (e + 1)) l m
  marks_end c n l m f z = rw z at f

-- there is room for a mark
pub mark_room : (c n e len : ℕ) → c < n → e < mark_width → n * mark_width ≤ len → c * mark_width + e < len
mark_room c n e len h k l = omega (arith, place_less n mark_width c e h k)

-- the mark of two cells that were read

pub numbered_mark_lem :
    (s t : List ℕ) (x y : Side) (m l : List ℕ) (tile start c e : ℕ) (u v : Result Cell Refusal) → u ≡ numbered_cell s x.kind x.fill m tile (start + c) x.held →
    v ≡ numbered_cell t y.kind y.fill l tile (start + c) y.held → one_if (differ u v) ≡ numbered_mark s t x y m l tile start c e
unfolding numbered_mark
numbered_mark_lem s t x y m l tile start c e u v p q = rw (p, q)

pub held_mark_lem :
    (s t : List ℕ) (q : Pair) (a : Rectangle) (x y : Result Held Refusal) (m l : List ℕ) (r left c e : ℕ) (u v : Result Cell Refusal) → u ≡ held_cell s q.first x m (a.row + r) (a.column + (left + c)) e →
    v ≡ held_cell t q.second y l (a.row + r) (a.column + (left + c)) e → one_if (differ u v) ≡ held_mark s t q a x y m l r left e c e
unfolding held_mark
held_mark_lem s t q a x y m l r left c e u v f g = rw (f, g)

-- what is held says what differs

module _ (s t : List ℕ) (q : Pair) (a : Rectangle) (p : Piece) (r e : ℕ) (x y : Side) (m : List ℕ) (f : Ready s q.first a p e x m) (g : Ready t q.second a p e y m)
  where
    abbrev n : ℕ
    n = p.right - p.left

    -- by numbers inside the tile
    pub numbered_says :
        (start : ℕ) (old now : List ℕ) → Numbered s q.first (of_element a e) x.held (part_of m x.from x.to) x.kind x.fill p.tile start r p.left p.right →
        Numbered t q.second (of_element a e) y.held (part_of m y.from y.to) y.kind y.fill p.tile start r p.left p.right →
        Filled mark_width (numbered_mark s t x y (part_of m x.from x.to) (part_of m y.from y.to) p.tile start) (Inside 0 n e (e + 1)) old now →
        Filled mark_width (row_mark s t q a r p.left) (Inside 0 n e (e + 1)) old now
    unfolding numbered_mark row_mark area_differ differ_at area_cells
    numbered_says start old now u v w =
        filled_as w
        (λ c i h.
        let z : i ≡ e = omega arith in
        let o : start + (p.left + c - p.left) ≡ start + c = omega arith in
        let d : numbered_cell s x.kind x.fill (part_of m x.from x.to) p.tile (start + c) x.held ≡ meaning s q.first (a.row + r) (a.column + (p.left + c)) e =
        rw o at (u.each (p.left + c) (omega arith) (omega arith)) in
        let b : numbered_cell t y.kind y.fill (part_of m y.from y.to) p.tile (start + c) y.held ≡ meaning t q.second (a.row + r) (a.column + (p.left + c)) e =
        rw o at (v.each (p.left + c) (omega arith) (omega arith)) in
        rw (z, d, b))

    -- by row and column
    pub held_says :
        (old now : List ℕ) → p.top ≤ r → r < p.bottom →
        Filled mark_width (held_mark s t q a x.held y.held (part_of m x.from x.to) (part_of m y.from y.to) r p.left e) (Inside 0 n e (e + 1)) old now →
        Filled mark_width (row_mark s t q a r p.left) (Inside 0 n e (e + 1)) old now
    unfolding held_mark row_mark area_differ differ_at area_cells
    held_says old now k l w =
        filled_as w
        (λ c i h.
        let z : i ≡ e = omega arith in
        rw (z, f.answered.each r (p.left + c) (omega arith), g.answered.each r (p.left + c) (omega arith)))

    -- a row of an element that is not looked up cell by cell
    pub row_numbered :
        (start : ℕ) → Both s t q a → (held_kind x.held ≡ 0 → ⊥) → (held_kind y.held ≡ 0 → ⊥) → start ≡ p.inside + (r - p.top) * tile_columns s → p.top ≤ r → r < p.bottom →
        Numbered s q.first (of_element a e) x.held (part_of m x.from x.to) x.kind x.fill p.tile start r p.left p.right
        × Numbered t q.second (of_element a e) y.held (part_of m y.from y.to) y.kind y.fill p.tile start r p.left p.right
    row_numbered start b h k z i j = (
      numbered_row s q.first (of_element a e) p x.held _ r _ x.kind x.fill start f.answered refl h z f.kind f.fill i j,
      numbered_row t q.second (of_element a e) p y.held _ r _ y.kind y.fill start g.answered refl k (z ∙ rw b.grid.tile_columns_lem) g.kind g.fill i j,
    )

-- all elements

module _ {g : ℕ → ℕ → ℕ} (w : ℕ) where
  pub elements_none : (l : List ℕ) → Filled mark_width g (Inside 0 w 0 0) l l
  elements_none l = filled_none l (λ r c h. omega arith)

  pub elements_more :
      (e : ℕ) (l m now : List ℕ) → Filled mark_width g (Inside 0 w 0 e) l m → Filled mark_width g (Inside 0 w e (e + 1)) m now → e < mark_width → Filled mark_width g (Inside 0 w 0 (e + 1)) l now
  elements_more e l m now f h k = filled_beside f h (omega arith) (omega arith) (omega arith)

  pub elements_end : (e n : ℕ) (l m : List ℕ) → Filled mark_width g (Inside 0 w 0 e) l m → e ≡ n → Filled mark_width g (Inside 0 w 0 n) l m
  elements_end e n l m f z = rw z at f

-- what the marks say
one_mark : (b : Bool) → eqb (one_if b) 1 ≡ b
unfolding one_if
one_mark true = refl
one_mark false = refl

pub marks_say :
    (s t : List ℕ) (q : Pair) (a : Rectangle) (r left right n : ℕ) (old now : List ℕ) → Filled mark_width (row_mark s t q a r left) (Inside 0 (right - left) 0 n) old now →
    (row c e : ℕ) → left ≤ c → c < right → e < n → marked now left row c e ≡ area_differ s t q a r c e
unfolding marked row_mark
marks_say s t q a r left right n old now f row c e h k l =
    let z : left + (c - left) ≡ c = omega arith in
    ap (λ (v : ℕ). eqb v 1) (f.in_area (c - left) e (omega arith)) ∙ one_mark (area_differ s t q a r (left + (c - left)) e) ∙ rw z
