-- What is counted: the marks of a row, the rows of a piece, the pieces of a row of tiles, and all of them. Assumes nothing.
use Rattle.std.specs.Prelude.{Result}
use Rattle.answer.specs.declared.Refusal.{Refusal}
use Prim.Native.Nat.{ℕ, zero, suc, ◌+◌, ◌-◌, ◌*◌, ◌≤◌, ◌<◌}
use mathlib.Core.Path.{◌≡◌, refl, sym, ap, ◌∙◌}
use mathlib.Core.List.{List, [], ◌∷◌}
use mathlib.Core.Bool.{Bool, true}
use mathlib.Core.Logic.{inl, inr, ⊎_elim, by_cases}
use native.Mathlib.Decide.{dec_le}
use native.Mathlib.Nat.{mul-le-mul, mul-le-mul_left}
use native.Mathlib.Omega.{arith}
use lib.ListN.{length, get_or, set, length-set}
use lib.Seq.{get_or-set_same, get_or-set_other}
use lib.Dec.{eqb}
use Rattle.wire.specs.Tests.{◌≤?◌}
use Rattle.wire.specs.Lists.{one_if, count_below}
use Rattle.wire.proofs.TestLaws.{yes, no}
use Rattle.wire.proofs.CountLaws.{count_same, count_most}
use Rattle.answer.specs.declared.Cell.{Cell}
use Rattle.answer.specs.Answers.{held_kind}
use Rattle.blocks.specs.Tables.{Inside, Filled}
use Rattle.blocks.specs.Folds.{fold_below, fold_rectangle, fold_inside}
use Rattle.blocks.specs.Walks.{Follows, walk_left}
use Rattle.blocks.proofs.BlockLaws.{block_few}
use Rattle.blocks.proofs.WalkLaws.{walk_less}
use Rattle.blocks.proofs.FoldLaws.{fold_same, fold_alike, sums}
use Rattle.blocks.proofs.InsideLaws.{inside_one, inside_none, inside_first, inside_moved, inside_under, one_row, row_beside}
use Rattle.row_lists.specs.Entries.{count_in}
use Rattle.row_lists.specs.Placing.{Counts}
use Rattle.row_lists.proofs.CutLaws.{row_few}
use Rattle.row_lists.proofs.RowLaws.{count_row}
use Rattle.store.specs.declared.many.Rectangle.{Rectangle}
use Rattle.store.specs.declared.pieces.Piece.{Piece}
use Rattle.store.specs.Pieces.{piece_in, first_piece}
use Rattle.store.specs.Face.{most_grid_side, tile_rows, tile_columns, held_cell, Accepts, of_element, band_end, next_piece, AtPiece}
use Rattle.store.proofs.ManyLaws.{sides_accepted}
use Rattle.store.proofs.PieceLaws.{rectangle_small, accepts_element, piece_element, piece_same, band_more, walk_first, walk_next, piece_alike, piece_absent}
use Rattle.comparisons.specs.declared.Comparison.{Comparison}
use Rattle.comparisons.specs.declared.Comparison.TheVariants.{Count, Unlike}
use Rattle.comparisons.specs.declared.Halt.{Halt}
use Rattle.comparisons.specs.declared.Halt.TheVariants as halt
use Rattle.page_compare.specs.declared.Pair.{Pair}
use Rattle.page_compare.specs.declared.sides.Side.{Side}
use Rattle.page_compare.specs.declared.count.Plain.{Plain}
use Rattle.page_compare.specs.declared.count.Plain.TheVariants.{Same, Each}
use Rattle.page_compare.specs.declared.count.Seen.{Seen}
use Rattle.page_compare.specs.declared.count.Seen.TheVariants.{Cells, Halted}
use Rattle.comparisons.specs.Comparisons.{differ_at, join_halt, cell_halt, halt_at, unless_halted}
use Rattle.page_compare.specs.Sides.{area_cells, area_differ, area_halt, area_halt_in, area_compared, Both, part_of, Ready, mark_width, marked, row_mark, sort_of}
use Rattle.page_compare.specs.Counting.{NoHalt, Level, PlainSays, Small, Added, AddedTo, Counted, Upto, InBand, Says, Cleared, EachMore, Along}
use Rattle.comparisons.proofs.CellLaws.{halts, halt_stays, halt_alike, halt_here, halt_nowhere, unless_none, halted_says}
use Rattle.page_compare.proofs.SortLaws.{sort_says}
use Rattle.page_compare.proofs.MarkLaws.{marks_say}

-- one cell more in a row
pub count_cell : (d : ℕ → ℕ → ℕ → Bool) (n r left c : ℕ) → left ≤ c → count_in d n r (r + 1) left (c + 1) ≡ count_in d n r (r + 1) left c + count_below n (d r c)
unfolding count_in
count_cell d n r left c h =
    row_beside ◌+◌ 0 sums r (λ i k. count_below n (d i k)) left c (c + 1) h (omega arith)
    ∙ ap (λ (v : ℕ). fold_inside ◌+◌ 0 r (r + 1) left c (λ i k. count_below n (d i k)) + v) (inside_one ◌+◌ 0 sums r c (λ i k. count_below n (d i k)))

-- and a stretch more
count_beside :
    (d : ℕ → ℕ → ℕ → Bool) (n r left mid right : ℕ) → left ≤ mid → mid ≤ right →
    count_in d n r (r + 1) left right ≡ count_in d n r (r + 1) left mid + count_in d n r (r + 1) mid right
unfolding count_in
count_beside d n r left mid right h k = row_beside ◌+◌ 0 sums r (λ i c. count_below n (d i c)) left mid right h k

pub no_cells_lem : (d : ℕ → ℕ → ℕ → Bool) (n r left : ℕ) → count_in d n r (r + 1) left left ≡ 0
unfolding count_in
no_cells_lem d n r left = inside_none ◌+◌ 0 sums r (r + 1) left left _ (λ i c h. absurd (omega arith))

-- the numbers of a column, as marks
pub column_marked : (m : List ℕ) (left c at n : ℕ) → at ≡ (c - left) * mark_width → count_below n (λ e. eqb (get_or m (at + e) 0) 1) ≡ count_below n (marked m left 0 c)
unfolding marked
column_marked m left c at n e = count_same n _ _ (λ k h. rw e)

-- a row, by its marks
pub row_marked :
    (d : ℕ → ℕ → ℕ → Bool) (m : List ℕ) (n r left right v : ℕ) → ((row c e : ℕ) → left ≤ c → c < right → e < n → marked m left row c e ≡ d r c e) →
    v ≡ count_in (marked m left) n 0 1 left right → v ≡ count_in d n r (r + 1) left right
unfolding count_in
row_marked d m n r left right v f e =
    e
    ∙ inside_moved ◌+◌ 0 0 1 left right r (r + 1) left right _ _ (omega arith) refl
    (λ i k h l. let z : r + i ≡ r = omega arith in rw z (count_same n _ _ (λ o u. f (0 + i) (left + k) o (omega arith) (omega arith) u)))

-- no more marks than columns and elements
pub row_least : (d : ℕ → ℕ → ℕ → Bool) (n r left right : ℕ) → left ≤ right → n ≤ 16 → count_in d n r (r + 1) left right ≤ (right - left) * 16
row_least d n r left right h k =
    let z : left + (right - left) ≡ right = omega arith in
    let f : count_in d n r (r + 1) left right ≤ (right - left) * n = rw z at (row_few d n r left (right - left)) in
    let g : (right - left) * n ≤ (right - left) * 16 = mul-le-mul_left (right - left) k in
    omega arith

-- the cells of a piece, by their first ones

module _ (s t : List ℕ) (q : Pair) (a : Rectangle) (p : Piece) (b : Both s t q a) (o : AtPiece s a p) (w : AtPiece t a p) (e : ℕ) (h : e < q.elements) (x y : Side) (m : List ℕ)
    (f : Ready s q.first a p e x m) (g : Ready t q.second a p e y m)
  where
    pub plain_element_lem :
        (absent : Bool) (sort : ℕ) →
        sort ≡ sort_of absent (area_cells s q.first a p.top p.left e) (area_cells t q.second a p.top p.left e) →
        (absent ≡ true → (held_kind x.held ≡ 33) × (held_kind y.held ≡ 33)) → (sort ≡ 2 → ⊥) → (r c : ℕ) → Inside p.top p.bottom p.left p.right r c →
        one_if (area_differ s t q a r c e) ≡ sort
    unfolding area_differ differ_at area_cells
    plain_element_lem absent sort z v n r c i =
        let g1 = accepts_element s a e b.first (omega (arith, b.elements.0)) in
        let g2 = accepts_element t a e b.second (omega (arith, b.elements.1)) in
        sort_says absent _ _ _ _ (piece_alike s q.first (of_element a e) p g1 (piece_element s a p e o) r c i).kind
        (piece_alike t q.second (of_element a e) p g2 (piece_element t a p e w) r c i).kind
        (λ u. (
          piece_absent s q.first (of_element a e) p x.held _ f.answered (piece_element s a p e o) (v u).0 r c i,
          piece_absent t q.second (of_element a e) p y.held _ g.answered (piece_element t a p e w) (v u).1 r c i,
        ))
        (λ u. n (z ∙ u))
        ∙ sym z

-- and their number
module _ (d : ℕ → ℕ → ℕ → Bool) (top bottom left right : ℕ) where
  pub level_none : Level d top bottom left right 0 0
  unfolding count_below
  level_none = record { each = λ r c h. refl }

  pub level_more :
      (k n sort : ℕ) → Level d top bottom left right k n → ((r c : ℕ) → Inside top bottom left right r c → one_if (d r c k) ≡ sort) →
      Level d top bottom left right (k + 1) (n + sort)
  unfolding count_below
  level_more k n sort f g = record { each = λ r c h. let z : k + 1 ≡ suc k = omega arith in rw (z, f.each r c h, g r c h) }

  pub level_few : (k n : ℕ) → Level d top bottom left right k n → top < bottom → left < right → n ≤ k
  level_few k n f h l = omega (arith, f.each top left (omega arith), count_most k (d top left))

  pub level_says : (k e n : ℕ) → Level d top bottom left right k n → k ≡ e → top < bottom → left < right → PlainSays d e top bottom left right (Same n)
  level_says k e n f z h l w q = let v : w ≡ n = cc in rw v (omega (arith, level_few k n f h l), λ r c i. rw z at (f.each r c i))

  pub each_says : (e : ℕ) → PlainSays d e top bottom left right Each
  each_says e w q = let z : ◌≡◌ {A = ℕ} 0 1 = cc in absurd (omega arith)

  -- so each row has as many
  pub plain_row :
      (e w r : ℕ) → ((r c : ℕ) → Inside top bottom left right r c → count_below e (d r c) ≡ w) → top ≤ r → r < bottom → left ≤ right →
      count_in d e r (r + 1) left right ≡ w * (right - left)
  unfolding count_in
  plain_row e w r f h k l =
      one_row ◌+◌ 0 sums r (λ i c. count_below e (d i c)) left right
      ∙ fold_alike (right - left) w _ (λ i u. f r (left + i) (omega arith)) ∙ omega arith

-- counts of rows

module _ (d : ℕ → ℕ → ℕ → Bool) (e top left right : ℕ) where
  pub added_none : (l : List ℕ) → Added d e top top left right 0 l l
  added_none l = record { long = refl; each = λ i h. absurd (omega arith); else = λ i h. refl }

  pub added_more :
      (r i v n : ℕ) (l m : List ℕ) → Added d e top r left right 0 l m → i ≡ r - top → top ≤ r → i < length l → n ≡ count_in d e r (r + 1) left right → v ≡ get_or m i 0 + n →
      Added d e top (r + 1) left right 0 l (set m i v)
  added_more r i v n l m a p h k q t =
      record {
        long = length-set m i v ∙ a.long;
        each = λ j w.
            by_cases (dec_le (top + j + 1) r) (λ b. ap (λ (u : ℕ). u + 0) (get_or-set_other m i j v 0 (λ z. omega arith)) ∙ a.each j (omega arith))
            (λ b.
            let z : j ≡ i = omega arith in
            let y : top + i ≡ r = omega arith in
            let u = get_or-set_same m i v 0 (omega (arith, a.long)) in
            let o = a.else i (omega arith) in
            rw (z, y) (omega arith));
        else = λ j w. get_or-set_other m i j v 0 (λ z. omega arith) ∙ a.else j (omega arith);
      }

  pub added_end : (r bottom : ℕ) (l m : List ℕ) → Added d e top r left right 0 l m → r ≡ bottom → Added d e top bottom left right 0 l m
  added_end r bottom l m a z = rw z at a

  -- where each cell has as many
  pub added_plain :
      (bottom w : ℕ) (l : List ℕ) (x : Plain) → PlainSays d e top bottom left right x → x ≡ Same w → left ≤ right → (w ≤ e) × AddedTo d e top bottom left right (w * (right - left)) l
  added_plain bottom w l x f q h =
      let y = f w q in
      (y.0, (λ i k. omega (arith, plain_row d top bottom left right e w (top + i) y.1 (omega arith) k h)))

-- a count that is small stays so
pub small_row : (top bottom i : ℕ) (counts : List ℕ) → Small top bottom counts → top + i < bottom → (i < length counts) × (get_or counts i 0 ≤ 1048576)
small_row top bottom i counts s h = (omega (arith, s.long), s.each i h)

-- the first cell of a piece
pub first_cell :
    (s : List ℕ) (ci : ℕ) (a : Rectangle) (p : Piece) (e : ℕ) (x : Side) (m : List ℕ) (v : Result Cell Refusal) → Ready s ci a p e x m → AtPiece s a p →
    v ≡ held_cell s ci x.held (part_of m x.from x.to) (a.row + p.top) (a.column + p.left) e → v ≡ area_cells s ci a p.top p.left e
unfolding area_cells
first_cell s ci a p e x m v r o z = let i = o.sides in z ∙ r.answered.each p.top p.left (omega arith)

-- the refusal of a cell, element by element

module _ (s t : List ℕ) (q : Pair) (a : Rectangle) (r c : ℕ) where
  pub no_halt : NoHalt s t q a r c 0
  no_halt = record { each = λ k h. absurd (omega arith) }

  module _
      (e : ℕ) (u v : Result Cell Refusal) (h : Halt) (n : NoHalt s t q a r c e) (f : u ≡ area_cells s q.first a r c e) (g : v ≡ area_cells t q.second a r c e) (w : h ≡ cell_halt u v)
    where
      here : h ≡ cell_halt (area_cells s q.first a r c e) (area_cells t q.second a r c e)
      here = w ∙ rw (f, g)

      pub halt_more : h ≡ halt.None → NoHalt s t q a r c (e + 1)
      halt_more z =
          record { each = λ k l. by_cases (dec_le (k + 1) e) (λ y. n.each k (omega arith)) (λ y. let o : k ≡ e = omega arith in rw o (sym here ∙ z)) }

      pub halt_found : e < q.elements → (h ≡ halt.None → ⊥) → h ≡ area_halt s t q a r c
      unfolding area_halt halt_at
      halt_found l z = halt_here (λ k. cell_halt (area_cells s q.first a r c k) (area_cells t q.second a r c k)) q.elements e h n.each l here z

  pub halt_ends : (e : ℕ) → NoHalt s t q a r c e → q.elements ≤ e → halt.None ≡ area_halt s t q a r c
  unfolding area_halt halt_at
  halt_ends e n l = halt_nowhere (λ k. cell_halt (area_cells s q.first a r c k) (area_cells t q.second a r c k)) q.elements e n.each l

-- the cells of a piece are refused as its first
pub piece_halt :
    (s t : List ℕ) (q : Pair) (a : Rectangle) (p : Piece) → Both s t q a → AtPiece s a p → AtPiece t a p → (r c : ℕ) → Inside p.top p.bottom p.left p.right r c →
    area_halt s t q a r c ≡ area_halt s t q a p.top p.left
unfolding area_halt halt_at area_cells
piece_halt s t q a p b o w r c i =
    fold_same join_halt halt.None q.elements _ _
    (λ e h.
    let f = accepts_element s a e b.first (omega (arith, b.elements.0)) in
    let g = accepts_element t a e b.second (omega (arith, b.elements.1)) in
    halt_alike _ _ _ _ (piece_alike s q.first (of_element a e) p f (piece_element s a p e o) r c i).verdict
    (piece_alike t q.second (of_element a e) p g (piece_element t a p e w) r c i).verdict)

-- a piece's first cells, one element more
module _
    (s t : List ℕ) (q : Pair) (a : Rectangle) (p : Piece) (b : Both s t q a) (o : AtPiece s a p) (w : AtPiece t a p) (e : ℕ) (h : e < q.elements) (x y : Side) (m : List ℕ)
    (f : Ready s q.first a p e x m) (g : Ready t q.second a p e y m) (u v : Result Cell Refusal) (absent : Bool) (n sort : ℕ)
    (i : u ≡ area_cells s q.first a p.top p.left e) (j : v ≡ area_cells t q.second a p.top p.left e) (z : sort ≡ sort_of absent u v)
    (k : absent ≡ true → (held_kind x.held ≡ 33) × (held_kind y.held ≡ 33)) (d : sort ≡ 2 → ⊥)
    (l : Level (area_differ s t q a) p.top p.bottom p.left p.right e n)
  where
    pub piece_level : Level (area_differ s t q a) p.top p.bottom p.left p.right (e + 1) (n + sort)
    piece_level = level_more (area_differ s t q a) p.top p.bottom p.left p.right e n sort l (plain_element_lem s t q a p b o w e h x y m f g absent sort (z ∙ rw (i, j)) k d)

    pub piece_few : n + sort ≤ 16
    piece_few = let i = o.sides in omega (arith, b.few, level_few (area_differ s t q a) p.top p.bottom p.left p.right (e + 1) (n + sort) piece_level i.0 i.1.1.0)

-- a row of marks, a column more

module _ (m : List ℕ) (left n : ℕ) where
  pub marks_none : 0 ≡ count_in (marked m left) n 0 1 left left
  marks_none = sym (no_cells_lem (marked m left) n 0 left)

  pub marks_more :
      (c at k v : ℕ) → k ≡ count_in (marked m left) n 0 1 left c → at ≡ (c - left) * mark_width → v ≡ count_below n (λ e. eqb (get_or m (at + e) 0) 1) → left ≤ c →
      k + v ≡ count_in (marked m left) n 0 1 left (c + 1)
  marks_more c at k v f g h l = omega (arith, f, h, column_marked m left c at n g, count_cell (marked m left) n 0 left c l)

  pub marks_few : (c k : ℕ) → k ≡ count_in (marked m left) n 0 1 left c → left ≤ c → n ≤ 16 → k ≤ (c - left) * 16
  marks_few c k f l h = omega (arith, f, row_least (marked m left) n 0 left c l h)

  pub marks_end : (c right k : ℕ) → k ≡ count_in (marked m left) n 0 1 left c → c ≡ right → k ≡ count_in (marked m left) n 0 1 left right
  marks_end c right k f z = rw z at f

-- what a row has, by its marks
pub row_counted :
    (s t : List ℕ) (q : Pair) (a : Rectangle) (r left right v : ℕ) (old now : List ℕ) → Filled mark_width (row_mark s t q a r left) (Inside 0 (right - left) 0 q.elements) old now →
    v ≡ count_in (marked now left) q.elements 0 1 left right → v ≡ count_in (area_differ s t q a) q.elements r (r + 1) left right
row_counted s t q a r left right v old now f e =
    row_marked (area_differ s t q a) now q.elements r left right v (marks_say s t q a r left right q.elements old now f) e

-- and its count can be added
pub row_adds :
    (d : ℕ → ℕ → ℕ → Bool) (e top bottom left right r i n : ℕ) (l m : List ℕ) → Added d e top r left right 0 l m → Small top bottom l → i ≡ r - top → top ≤ r → r < bottom →
    n ≡ count_in d e r (r + 1) left right → left ≤ right → right ≤ most_grid_side → e ≤ 16 → (i < length l) × ((i < length m) × (get_or m i 0 + n ≤ 2097152))
row_adds d e top bottom left right r i n l m a s p h k q u v w =
    let y = small_row top bottom i l s (omega arith) in
    (y.0, (omega (arith, y.0, a.long), omega (arith, y.1, a.else i (omega arith), row_least d e r left right u w)))

-- a piece where each cell has as many
pub plain_fits : (w e left right : ℕ) → w ≤ e → e ≤ 16 → right - left ≤ most_grid_side → w * (right - left) ≤ 16 * most_grid_side
plain_fits w e left right h k l = let m : w ≤ 16 = omega arith in mul-le-mul m l

pub added_same :
    (d : ℕ → ℕ → ℕ → Bool) (e top bottom left right w : ℕ) (l : List ℕ) (x : Plain) → PlainSays d e top bottom left right x → x ≡ Same w → left ≤ right →
    Added d e top bottom left right (w * (right - left)) l l
added_same d e top bottom left right w l x f q h =
    record { long = refl; each = (added_plain d e top left right bottom w l x f q h).1; else = λ i k. refl }

-- what was counted, or the refusal

module _ (h : Halt) (f : ℕ → Type 0) where
  pub says_halted : (g : Halt) → g ≡ h → (g ≡ halt.None → ⊥) → Says h f (Halted g)
  says_halted g e n = record { cells = λ w q. let z : ◌≡◌ {A = ℕ} 0 1 = cc in absurd (omega arith); halted = λ k q. let y : g ≡ k = cc in (rw (← y) (sym e), rw (← y) n) }

  pub says_cells : (w : ℕ) → h ≡ halt.None → f w → Says h f (Cells w)
  says_cells w e y = record { cells = λ v q. let z : w ≡ v = cc in (e, rw (← z) y); halted = λ k q. let z : ◌≡◌ {A = ℕ} 0 1 = cc in absurd (omega arith) }

-- one refusal stays
pub says_still : (h : Halt) (f k : ℕ → Type 0) (x : Seen) (g : Halt) → Says h f x → x ≡ Halted g → Says h k (Halted g)
says_still h f k x g y z = let w = y.halted g z in says_halted h k g (sym w.0) w.1

-- a row of tiles, piece by piece

module _ (s : List ℕ) (a : Rectangle) (g : Accepts s a) (top bottom : ℕ) (e : bottom ≡ band_end s a top) (h : top < a.rows) where
  pub band_low : (top < bottom) × ((bottom ≤ a.rows) × (bottom ≤ top + 4096))
  band_low =
      let m = band_more s a g top bottom e h in
      let d = sides_accepted s g.accepted in
      (m.0, (m.1.0, omega (arith, block_few a.row top bottom (tile_rows s) m.1.1 d.tile_rows_lem.0, d.tile_rows_lem.1)))

  pub first_band : (p : Piece) (f : ℕ → Type 0) → p ≡ first_piece s a top → f 0 → InBand a.columns top bottom p.top p.bottom p.left f
  unfolding first_piece piece_in
  first_band p f q y =
      by_cases (dec_le 1 a.columns)
      (λ c. let z : p ≡ piece_in s a top (band_end s a top) 0 = q ∙ rw (← yes ((1 ≤? a.columns) ∷ []) (c, tt)) in inl (rw z (refl, sym e), rw z y))
      (λ c.
      let z : p ≡ piece_in s a a.rows a.rows 0 = q ∙ rw (← no ((1 ≤? a.columns) ∷ []) (λ y. c y.0)) in
      let n : a.columns ≡ 0 = omega arith in
      inr (rw z band_low.1.0, rw n y))

module _ {n top bottom : ℕ} (f : ℕ → Type 0) where
  pub in_band : {top2 bottom2 left2 : ℕ} → InBand n top bottom top2 bottom2 left2 f → top2 < bottom → ((top2 ≡ top) × (bottom2 ≡ bottom)) × f left2
  in_band o h = ⊎_elim (λ e. e) (λ e. absurd (omega arith)) o

  pub next_band :
      {top1 bottom1 left1 right1 top2 bottom2 left2 : ℕ} → Follows n top1 bottom1 left1 right1 top2 bottom2 left2 → top1 ≡ top → bottom1 ≡ bottom → f right1 →
      InBand n top bottom top2 bottom2 left2 f
  next_band w a b g = ⊎_elim (λ e. inl ((e.0 ∙ a, e.1.0 ∙ b), rw e.1.1 g)) (λ e. inr (omega arith, rw (← e.0) g)) w.next

  pub out_band : {top2 bottom2 left2 : ℕ} → InBand n top bottom top2 bottom2 left2 f → bottom ≤ top2 → top < bottom → f n
  out_band o h k = ⊎_elim (λ e. absurd (omega arith)) (λ e. e.1) o

-- the sides of a tile are small
pub tile_cells_lem : (s : List ℕ) (a : Rectangle) (m n : ℕ) → Accepts s a → m ≡ tile_rows s → n ≡ tile_columns s → m * n ≤ 16777216
tile_cells_lem s a m n g e f =
    let d = sides_accepted s g.accepted in
    let u : m ≤ 4096 = omega (arith, d.tile_rows_lem.1) in
    let v : n ≤ 4096 = omega (arith, d.tile_columns_lem.1) in
    let w : m * n ≤ 4096 * 4096 = mul-le-mul u v in
    omega arith

pub piece_narrow : (s : List ℕ) (a : Rectangle) (p : Piece) → Accepts s a → AtPiece s a p → (p.right - p.left) * mark_width ≤ 65536
piece_narrow s a p g o = omega (arith, o.narrow, (sides_accepted s g.accepted).tile_columns_lem.1)

module _ (h : ℕ → ℕ → Halt) (d : ℕ → ℕ → ℕ → Bool) (e top bottom : ℕ) where
  pub upto_none : (counts : List ℕ) → ((i : ℕ) → top + i < bottom → get_or counts i 0 ≡ 0) → Upto h d e top bottom 0 0 counts
  upto_none counts z =
      record {
        counted = record { each = λ i k. omega (arith, z i k, no_cells_lem d e (top + i) 0) };
        clear = λ r c i. absurd (omega arith);
      }

-- each row has few
module _
    (d : ℕ → ℕ → ℕ → Bool) (e top bottom column every : ℕ) (counts : List ℕ) (c : Counted d e top bottom column every counts) (l : e ≤ 16) (m : column ≤ most_grid_side)
  where
    pub counted_few : (i : ℕ) → top + i < bottom → get_or counts i 0 + every ≤ 1048576
    counted_few i k = omega (arith, c.each i k, row_least d e (top + i) 0 column (omega arith) l)

    pub every_few : top < bottom → every ≤ 1048576
    every_few k = omega (arith, counted_few 0 (omega arith))

    pub counted_small : bottom ≤ top + length counts → Small top bottom counts
    counted_small u = record { long = u; each = λ i k. omega (arith, counted_few i k) }

-- a piece more

module _
    (s t : List ℕ) (q : Pair) (a : Rectangle) (p : Piece) (b : Both s t q a) (o : AtPiece s a p) (top bottom every : ℕ) (old now : List ℕ) (x : Seen) (e : p.top ≡ top)
    (f : p.bottom ≡ bottom) (u : Upto (area_halt s t q a) (area_differ s t q a) q.elements top bottom p.left every old)
    (y :
    Says (area_halt s t q a p.top p.left)
    (λ w. Added (area_differ s t q a) q.elements p.top p.bottom p.left p.right w old now) x)
  where
    pub tile_halted : (g : Halt) (w : ℕ → Type 0) → x ≡ Halted g → Says (area_halt_in s t q a top bottom 0 a.columns) w (Halted g)
    unfolding area_halt_in
    tile_halted g w z =
        let h = y.halted g z in
        let i = o.sides in
        says_halted _ w g
        (sym
        (inside_first join_halt halt.None halts top bottom 0 a.columns (area_halt s t q a) p.left g (rw (← e) h.0) (λ k l m. u.clear top k (omega arith))
        (halt_stays g h.1) (omega arith) (omega arith) (omega arith)))
        h.1

    module _ (n : ℕ) (z : x ≡ Cells n) where
      added : Added (area_differ s t q a) q.elements top bottom p.left p.right n old now
      added = rw (e, f) at (y.cells n z).1

      pub tile_counted_lem : Upto (area_halt s t q a) (area_differ s t q a) q.elements top bottom p.right (every + n) now
      tile_counted_lem =
          let i = o.sides in
          record {
            counted = record {
              each = λ k l.
                  omega (arith, added.each k l, u.counted.each k l, count_beside (area_differ s t q a) q.elements (top + k) 0 p.left p.right (omega arith) (omega arith));
            };
            clear = λ r c j.
                by_cases (dec_le (c + 1) p.left) (λ m. u.clear r c (omega arith))
                (λ m. piece_halt s t q a p b o (piece_same s t b.grid a p o) r c (omega arith) ∙ (y.cells n z).0);
          }

      pub tile_fits : q.elements ≤ 16 → a.columns ≤ most_grid_side → every + n ≤ 1048576
      tile_fits l m =
          let i = o.sides in
          every_few (area_differ s t q a) q.elements top bottom p.right (every + n) now tile_counted_lem.counted l (omega arith) (omega arith)

-- all pieces
pub band_counted :
    (s t : List ℕ) (q : Pair) (a : Rectangle) (top bottom every : ℕ) (now : List ℕ) →
    Upto (area_halt s t q a) (area_differ s t q a) q.elements top bottom a.columns every now →
    Says (area_halt_in s t q a top bottom 0 a.columns) (λ w. Counted (area_differ s t q a) q.elements top bottom a.columns w now) (Cells every)
unfolding area_halt_in
band_counted s t q a top bottom every now u =
    says_cells _ (λ w. Counted (area_differ s t q a) q.elements top bottom a.columns w now) every
    (inside_none join_halt halt.None halts top bottom 0 a.columns (area_halt s t q a) (λ r c i. u.clear r c i)) u.counted

module _ (s t : List ℕ) (q : Pair) (a : Rectangle) (b : Both s t q a) (top bottom : ℕ) (h : top < a.rows) (e : bottom ≡ band_end s a top) where
  abbrev Sofar : ℕ → List ℕ → ℕ → Type 0
  Sofar every counts column = Upto (area_halt s t q a) (area_differ s t q a) q.elements top bottom column every counts

  pub along_first : (counts : List ℕ) (p : Piece) → p ≡ first_piece s a top → ((i : ℕ) → top + i < bottom → get_or counts i 0 ≡ 0) → Along s t q a top bottom 0 counts p
  along_first counts p z f =
      record {
        walks = (walk_first s a b.first top p z (omega arith)).0;
        band = first_band s a b.first top bottom e h p (Sofar 0 counts) z (upto_none (area_halt s t q a) (area_differ s t q a) q.elements top bottom counts f);
      }

  module _ (every : ℕ) (counts : List ℕ) (p : Piece) (w : Along s t q a top bottom every counts p) where
    pub along_end :
        bottom ≤ p.top →
        Says (area_halt_in s t q a top bottom 0 a.columns) (λ w. Counted (area_differ s t q a) q.elements top bottom a.columns w counts) (Cells every)
    along_end l = band_counted s t q a top bottom every counts (out_band (Sofar every counts) w.band l (band_low s a b.first top bottom e h).0)

    module _ (l : p.top < bottom) where
      pub here_piece : AtPiece s a p
      here_piece = w.walks.piece (omega (arith, (band_low s a b.first top bottom e h).1.0))

      there : ((p.top ≡ top) × (p.bottom ≡ bottom)) × Sofar every counts p.left
      there = in_band (Sofar every counts) w.band l

      wide : a.columns ≤ most_grid_side
      wide = omega (arith, rectangle_small s a b.first)

      pub here_small : 4096 ≤ length counts → Small p.top p.bottom counts
      here_small k =
          let m = band_low s a b.first top bottom e h in
          let i = here_piece.sides in
          rw (there.0.0, there.0.1)
          (counted_small (area_differ s t q a) q.elements top bottom p.left every counts there.1.counted b.few (omega (arith, wide)) (omega arith))

      pub here_narrow : (m : ℕ) → 65536 ≤ m → (p.right - p.left) * mark_width ≤ m
      here_narrow m k = omega (arith, piece_narrow s a p b.first here_piece)

      module _
          (now : List ℕ) (x : Seen)
          (y :
          Says (area_halt s t q a p.top p.left)
          (λ w. Added (area_differ s t q a) q.elements p.top p.bottom p.left p.right w counts now) x)
        where
          pub here_halted : (g : Halt) (f : ℕ → Type 0) → x ≡ Halted g → Says (area_halt_in s t q a top bottom 0 a.columns) f (Halted g)
          here_halted g f z = tile_halted s t q a p b here_piece top bottom every counts now x there.0.0 there.0.1 there.1 y g f z

          module _ (n : ℕ) (z : x ≡ Cells n) where
            pub here_fits : every + n ≤ 1048576
            here_fits = tile_fits s t q a p b here_piece top bottom every counts now x there.0.0 there.0.1 there.1 y n z b.few wide

            pub here_next : (p2 : Piece) → p2 ≡ next_piece s a p → Along s t q a top bottom (every + n) now p2
            here_next p2 k =
                let v = walk_next s a b.first top p p2 w.walks (omega (arith, (band_low s a b.first top bottom e h).1.0)) k in
                record {
                  walks = v.0;
                  band = next_band (Sofar (every + n) now) v.1 there.0.0 there.0.1
                      (tile_counted_lem s t q a p b here_piece top bottom every counts now x there.0.0 there.0.1 there.1 y n z);
                }

      pub here_less : (p2 : Piece) → p2 ≡ next_piece s a p → walk_left a.rows a.columns p2.top p2.left < walk_left a.rows a.columns p.top p.left
      here_less p2 k =
          let v = walk_next s a b.first top p p2 w.walks (omega (arith, (band_low s a b.first top bottom e h).1.0)) k in
          let i = here_piece.sides in
          walk_less a.rows v.1 i.0 i.1.0 i.1.1.0

-- numbers made 0, and added to, one after the other

pub cleared_none : (counts : List ℕ) → Cleared 0 counts
cleared_none counts = record { each = λ i h. absurd (omega arith) }

pub cleared_more : (k : ℕ) (counts : List ℕ) → Cleared k counts → k < length counts → Cleared (k + 1) (set counts k 0)
cleared_more k counts f l =
    record {
      each = λ i h.
          by_cases (dec_le (i + 1) k) (λ a. get_or-set_other counts k i 0 0 (λ z. omega arith) ∙ f.each i (omega arith))
          (λ a. let z : i ≡ k = omega arith in rw z (get_or-set_same counts k 0 0 l));
    }

pub more_none : (every : ℕ) (old : List ℕ) → EachMore 0 every old old
more_none every old = record { done = λ i h. absurd (omega arith); waiting = λ i h. refl }

pub more_then : (k every v : ℕ) (old now : List ℕ) → EachMore k every old now → k < length now → v ≡ get_or now k 0 + every → EachMore (k + 1) every old (set now k v)
more_then k every v old now m l e =
    record {
      done = λ i h.
          by_cases (dec_le (i + 1) k) (λ a. get_or-set_other now k i v 0 (λ z. omega arith) ∙ m.done i (omega arith))
          (λ a. let z : i ≡ k = omega arith in rw z (get_or-set_same now k v 0 l ∙ e ∙ ap (λ (x : ℕ). x + every) (m.waiting k (omega arith))));
      waiting = λ i h. get_or-set_other now k i v 0 (λ z. omega arith) ∙ m.waiting i (omega arith);
    }

pub sum_none : (f : ℕ → ℕ) → 0 ≡ fold_below ◌+◌ 0 0 f
unfolding fold_below
sum_none f = refl

pub sum_then : (f : ℕ → ℕ) (k n v : ℕ) → n ≡ fold_below ◌+◌ 0 k f → v ≡ f k → n + v ≡ fold_below ◌+◌ 0 (k + 1) f
unfolding fold_below
sum_then f k n v e h = let z : k + 1 ≡ suc k = omega arith in rw (z, e, h)

pub sum_few : (f : ℕ → ℕ) (k m : ℕ) → ((i : ℕ) → i < k → f i ≤ m) → fold_below ◌+◌ 0 k f ≤ k * m
unfolding fold_below
sum_few f zero m h = omega arith
sum_few f (suc k) m h = omega (arith, sum_few f k m (λ i l. h i (omega arith)), h k (omega arith))

pub sum_end : (f : ℕ → ℕ) (k n v : ℕ) → v ≡ fold_below ◌+◌ 0 k f → k ≡ n → v ≡ fold_below ◌+◌ 0 n f
sum_end f k n v e z = rw z at e

-- a row by its cells
row_is : (d : ℕ → ℕ → ℕ → Bool) (e r n : ℕ) → count_in d e r (r + 1) 0 n ≡ fold_below ◌+◌ 0 (n - 0) (λ j. count_below e (d r (0 + j)))
unfolding count_in
row_is d e r n = one_row ◌+◌ 0 sums r (λ i c. count_below e (d i c)) 0 n

rows_none : (d : ℕ → ℕ → ℕ → Bool) (e n : ℕ) → count_in d e 0 0 0 n ≡ 0
unfolding count_in
rows_none d e n = inside_none ◌+◌ 0 sums 0 0 0 n _ (λ r c i. absurd (omega arith))

-- the rows of a row of tiles, and their sum

module _ (d : ℕ → ℕ → ℕ → Bool) (e top bottom n : ℕ) where
  pub band_sum :
      (every : ℕ) (counts : List ℕ) → Counted d e top bottom n every counts → fold_below ◌+◌ 0 (bottom - top) (λ i. get_or counts i 0 + every) ≡ count_in d e top bottom 0 n
  unfolding count_in fold_inside fold_rectangle
  band_sum every counts c =
      fold_same ◌+◌ 0 (bottom - top) _ _ (λ i h. c.each i (omega arith) ∙ row i)
    where
      row : (i : ℕ) → count_in d e (top + i) (top + i + 1) 0 n ≡ fold_below ◌+◌ 0 (n - 0) (λ j. count_below e (d (top + i) (0 + j)))
      row i = row_is d e (top + i) n

  pub band_counts :
      (every : ℕ) (old now : List ℕ) → Counted d e top bottom n every old → ((i : ℕ) → i < bottom - top → get_or now i 0 ≡ get_or old i 0 + every) → Counts d e n top bottom now
  band_counts every old now c f = record { each = λ i h. f i (omega arith) ∙ c.each i h }

-- all rows of tiles

pub rows_few : (d : ℕ → ℕ → ℕ → Bool) (e n m : ℕ) → e ≤ 16 → n ≤ most_grid_side → count_in d e 0 m 0 n ≤ m * 1048576
rows_few d e n zero h k = omega (arith, rows_none d e n)
rows_few d e n (suc m) h k =
    let z : suc m ≡ m + 1 = omega arith in
    rw z (omega (arith, count_row d e n m, rows_few d e n m h k, row_least d e m 0 n (omega arith) h))

halted_area :
    (s t : List ℕ) (q : Pair) (a : Rectangle) (top bottom : ℕ) (g : Halt) (r : Comparison) → top ≤ bottom → bottom ≤ a.rows → area_halt_in s t q a 0 top 0 a.columns ≡ halt.None →
    area_halt_in s t q a top bottom 0 a.columns ≡ g → (g ≡ halt.None → ⊥) → r ≡ unless_halted g Unlike → r ≡ area_compared s t q a
unfolding area_compared area_halt_in
halted_area s t q a top bottom g r h l k w n e =
    let f = area_halt s t q a in
    let u : fold_inside join_halt halt.None 0 a.rows 0 a.columns f ≡ g =
    inside_under join_halt halt.None halts 0 top a.rows 0 a.columns f (omega arith) (omega arith)
    ∙ rw (k, inside_under join_halt halt.None halts top bottom a.rows 0 a.columns f h l, w) (halts.unit_left _ ∙ halt_stays g n _) in
    rw u (e ∙ halted_says g _ n)

more_area :
    (s t : List ℕ) (q : Pair) (a : Rectangle) (top bottom sum n : ℕ) → top ≤ bottom → sum ≡ count_in (area_differ s t q a) q.elements 0 top 0 a.columns →
    area_halt_in s t q a 0 top 0 a.columns ≡ halt.None → area_halt_in s t q a top bottom 0 a.columns ≡ halt.None →
    n ≡ count_in (area_differ s t q a) q.elements top bottom 0 a.columns →
    (sum + n ≡ count_in (area_differ s t q a) q.elements 0 bottom 0 a.columns) × (area_halt_in s t q a 0 bottom 0 a.columns ≡ halt.None)
unfolding area_halt_in count_in
more_area s t q a top bottom sum n h c k w e = (
  rw (c, e) (sym (inside_under ◌+◌ 0 sums 0 top bottom 0 a.columns _ (omega arith) h)),
  inside_under join_halt halt.None halts 0 top bottom 0 a.columns (area_halt s t q a) (omega arith) h ∙ rw (k, w) (halts.unit_left _),
)

module _ (s t : List ℕ) (q : Pair) (a : Rectangle) where
  pub all_none : (0 ≡ count_in (area_differ s t q a) q.elements 0 0 0 a.columns) × (area_halt_in s t q a 0 0 0 a.columns ≡ halt.None)
  unfolding count_in area_halt_in
  all_none = (
    sym (inside_none ◌+◌ 0 sums 0 0 0 a.columns _ (λ r c i. absurd (omega arith))),
    inside_none join_halt halt.None halts 0 0 0 a.columns _ (λ r c i. absurd (omega arith)),
  )

  module _
      (top bottom sum : ℕ) (x : Seen) (f : ℕ → Type 0) (h : top ≤ bottom) (c : sum ≡ count_in (area_differ s t q a) q.elements 0 top 0 a.columns)
      (k : area_halt_in s t q a 0 top 0 a.columns ≡ halt.None)
      (y : Says (area_halt_in s t q a top bottom 0 a.columns) (λ w. (w ≡ count_in (area_differ s t q a) q.elements top bottom 0 a.columns) × f w) x)
    where
      pub all_halted : (g : Halt) (r : Comparison) → x ≡ Halted g → bottom ≤ a.rows → r ≡ unless_halted g Unlike → r ≡ area_compared s t q a
      all_halted g r z l e = let w = y.halted g z in halted_area s t q a top bottom g r h l k w.0 w.1 e

      pub all_more :
          (n : ℕ) → x ≡ Cells n →
          (sum + n ≡ count_in (area_differ s t q a) q.elements 0 bottom 0 a.columns) × (area_halt_in s t q a 0 bottom 0 a.columns ≡ halt.None)
      all_more n z = let w = y.cells n z in more_area s t q a top bottom sum n h c k w.0 w.1.0

      pub all_fits : (n : ℕ) → x ≡ Cells n → q.elements ≤ 16 → a.columns ≤ most_grid_side → bottom ≤ most_grid_side → sum + n ≤ most_grid_side * 1048576
      all_fits n z l m w = omega (arith, (all_more n z).0, rows_few (area_differ s t q a) q.elements a.columns bottom l m)

  pub all_counted :
      (top sum : ℕ) → sum ≡ count_in (area_differ s t q a) q.elements 0 top 0 a.columns → area_halt_in s t q a 0 top 0 a.columns ≡ halt.None → top ≡ a.rows →
      Count sum ≡ area_compared s t q a
  unfolding area_compared
  all_counted top sum c k z =
      let d : sum ≡ count_in (area_differ s t q a) q.elements 0 a.rows 0 a.columns = rw z at c in
      let l : area_halt_in s t q a 0 a.rows 0 a.columns ≡ halt.None = rw z at k in
      ap Count d ∙ unless_none _ _ l
