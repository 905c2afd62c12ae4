-- What an answer tells of two pages. Assumes nothing.
use Rattle.std.specs.Prelude.{Err, Ok, Result, ⊤}
use Prim.Native.Nat.{ℕ, zero, suc, ◌+◌, ◌<◌}
use mathlib.Core.Path.{◌≡◌, refl, sym, ap, ap₂, ◌∙◌}
use mathlib.Core.List.{List}
use mathlib.Core.Bool.{Bool, true, false}
use native.Mathlib.Omega.{arith}
use lib.ListN.{length}
use Rattle.wire.specs.Pick.{pick}
use Rattle.wire.specs.Lists.{one_if, count_below}
use Rattle.answer.specs.declared.Refusal.{Refusal}
use Rattle.answer.specs.declared.Cell.{Cell}
use Rattle.answer.specs.Refusals.{unless_refused}
use Rattle.answer.specs.Answers.{cell_verdict}
use Rattle.store.specs.Face.{grid_rows, grid_columns, element_count, check, meaning}
use Rattle.store.proofs.PieceLaws.{same_cell, same_inside}
use Rattle.blocks.proofs.FoldLaws.{sums}
use Rattle.blocks.proofs.InsideLaws.{inside_each, inside_none, inside_first_at}
use Rattle.row_lists.specs.Entries.{Entry, Tiling, count_in, listed}
use Rattle.row_lists.proofs.EntryLaws.{count_is, lists_each_once, swapped_same}
use Rattle.row_lists.proofs.ListedLaws.{same_tiling}
use Rattle.comparisons.specs.declared.Comparison.{Comparison}
use Rattle.comparisons.specs.declared.Comparison.TheVariants.{Count, First, Second, Unlike}
use Rattle.comparisons.specs.declared.Halt.{Halt}
use Rattle.comparisons.specs.declared.Halt.TheVariants as halt
use Rattle.comparisons.specs.Comparisons.{alike, differ_at, join_halt, cell_halt, halt_at, halt_in, unless_halted, compared_in, compared_pages, comparison, differing_cells, tiling_of}
use Rattle.comparisons.specs.Sound.{CellsOnce, ComparedOnce, Swapped, Same, EqualShape, ReadBefore, RefusedInOrder}
use Rattle.comparisons.proofs.CellLaws.{differ_swapped, differ_same, halts, halt_stays, halts_none, halt_first, halt_second, halt_none, first_not, second_not, none_halts, halt_here, halt_nowhere, halt_each}
use Rattle.comparisons.proofs.PageLaws.{halt_of, count_of, alike_means, shape_grid, means_alike, not_alike, compared_first, compared_second, compared_unlike, compared_alike, counted_pages}

-- an answer that is a number

passed : (refused : Refusal → Comparison) (v : Result ⊤ Refusal) (x : Comparison) (n : ℕ) → ((r : Refusal) → refused r ≡ Count n → ⊥) → unless_refused refused v x ≡ Count n → (v ≡ Ok tt) × (x ≡ Count n)
unfolding unless_refused
passed refused (Ok accepted) x n f e = (refl, e)
passed refused (Err r) x n f e = absurd (f r e)

first_none : (n : ℕ) (r : Refusal) → First r ≡ Count n → ⊥
first_none n r e = let z : ◌≡◌ {A = ℕ} 0 1 = cc in omega arith

second_none : (n : ℕ) (r : Refusal) → Second r ≡ Count n → ⊥
second_none n r e = let z : ◌≡◌ {A = ℕ} 0 1 = cc in omega arith

picked : (b : Bool) (x : Comparison) (n : ℕ) → pick b x Unlike ≡ Count n → (b ≡ true) × (x ≡ Count n)
picked true x n e = (refl, e)
picked false x n e = let z : ◌≡◌ {A = ℕ} 0 1 = cc in absurd (omega arith)

module _ (s : List ℕ) (k : ℕ) (t : List ℕ) (j : ℕ) where
  abbrev d : ℕ → ℕ → ℕ → Bool
  d = differ_at (meaning s k) (meaning t j)

  pub record Counts (n : ℕ) : Type 0 where
    pub accepted : (check s ≡ Ok tt) × (check t ≡ Ok tt)
    pub shape : EqualShape s t
    pub read : halt_of s k t j ≡ halt.None
    pub number : n ≡ length (differing_cells s k t j)

  cells_counted : count_of s k t j ≡ length (differing_cells s k t j)
  unfolding differing_cells
  cells_counted = sym (count_is d (element_count s) 0 (grid_rows s) 0 (grid_columns s))

  counts : (n : ℕ) → comparison s k t j ≡ Count n → Counts n
  unfolding comparison
  counts n e =
      let a = passed First (check s) _ n (first_none n) e in
      let b = passed Second (check t) _ n (second_none n) a.1 in
      let c = picked (alike s t) _ n b.1 in
      let f = counted_pages s k t j n c.1 in
      record { accepted = (a.0, b.0); shape = alike_means s t c.0; read = f.0; number = f.1 ∙ cells_counted }

  -- the other way: where no cell is refused
  compared : (x : Comparison) → check s ≡ Ok tt → check t ≡ Ok tt → EqualShape s t → x ≡ compared_pages s k t j → comparison s k t j ≡ x
  compared x a b h e = sym (compared_alike s k t j (check s) refl a (check t) refl b (alike s t) refl x (sym (means_alike s t h)) e)

  halted_pages : (h : Halt) → halt_of s k t j ≡ h → unless_halted h (Count (length (differing_cells s k t j))) ≡ compared_pages s k t j
  unfolding compared_pages compared_in
  halted_pages h e = rw (e, cells_counted)

  says :
      (h : Halt) → check s ≡ Ok tt → check t ≡ Ok tt → EqualShape s t → halt_of s k t j ≡ h →
      comparison s k t j ≡ unless_halted h (Count (length (differing_cells s k t j)))
  says h a b f e = compared _ a b f (halted_pages h e)

  -- cells that can be read halt nothing
  cell_none : (r c e : ℕ) → cell_verdict (meaning s k r c e) ≡ Ok tt → cell_verdict (meaning t j r c e) ≡ Ok tt → cell_halt (meaning s k r c e) (meaning t j r c e) ≡ halt.None
  cell_none r c e a b = sym (halt_none (meaning s k r c e) (meaning t j r c e) _ refl _ refl a b)

  row_none : (r c : ℕ) → ((e : ℕ) → e < element_count s → (cell_verdict (meaning s k r c e) ≡ Ok tt) × (cell_verdict (meaning t j r c e) ≡ Ok tt)) →
      halt_at (meaning s k) (meaning t j) (element_count s) r c ≡ halt.None
  unfolding halt_at
  row_none r c f =
      sym
      (halt_nowhere (λ e. cell_halt (meaning s k r c e) (meaning t j r c e)) (element_count s) (element_count s) (λ e h. cell_none r c e (f e h).0 (f e h).1)
      (omega arith))

  none_refused :
      ((r c e : ℕ) → r < grid_rows s → c < grid_columns s → e < element_count s → (cell_verdict (meaning s k r c e) ≡ Ok tt) × (cell_verdict (meaning t j r c e) ≡ Ok tt)) →
      halt_of s k t j ≡ halt.None
  unfolding halt_in
  none_refused f = inside_none join_halt halt.None halts 0 (grid_rows s) 0 (grid_columns s) _ (λ r c h. row_none r c (λ e l. f r c e (omega arith) (omega arith) l))

  -- and where nothing halts each can be read
  each_read :
      halt_of s k t j ≡ halt.None → (r c e : ℕ) → r < grid_rows s → c < grid_columns s → e < element_count s →
      (cell_verdict (meaning s k r c e) ≡ Ok tt) × (cell_verdict (meaning t j r c e) ≡ Ok tt)
  unfolding halt_in halt_at
  each_read f r c e h i l =
      none_halts (meaning s k r c e) (meaning t j r c e)
      (halt_each (λ m. cell_halt (meaning s k r c m) (meaning t j r c m)) (element_count s) (inside_each join_halt halt.None halts_none 0 (grid_rows s) 0 (grid_columns s) _ f r c (omega arith)) e l)

  -- the first that halts
  element_halts :
      (r c e : ℕ) → e < element_count s → ReadBefore s k t j r c e → (h : Halt) → h ≡ cell_halt (meaning s k r c e) (meaning t j r c e) → (h ≡ halt.None → ⊥) →
      halt_at (meaning s k) (meaning t j) (element_count s) r c ≡ h
  unfolding halt_at
  element_halts r c e m b h q n =
      sym
      (halt_here (λ x. cell_halt (meaning s k r c x) (meaning t j r c x)) (element_count s) e h (λ x l. cell_none r c x (b.element x l).0 (b.element x l).1) m q n)

  halts_at :
      (r c e : ℕ) → r < grid_rows s → c < grid_columns s → e < element_count s → ReadBefore s k t j r c e → (h : Halt) → h ≡ cell_halt (meaning s k r c e) (meaning t j r c e) →
      (h ≡ halt.None → ⊥) → halt_of s k t j ≡ h
  unfolding halt_in
  halts_at r c e i l m b h q n =
      inside_first_at join_halt halt.None halts 0 (grid_rows s) 0 (grid_columns s) (halt_at (meaning s k) (meaning t j) (element_count s)) r c h (element_halts r c e m b h q n)
      (λ x y g. row_none x y (λ z w. b.above x y z (omega arith) (omega arith) w)) (λ y g w. row_none r y (λ z v. b.left y z w v)) (halt_stays h n) (omega arith)

  -- "each cell differing in kind or bits once, no other"
  once : (n : ℕ) → Counts n → CellsOnce s k t j n
  unfolding differing_cells
  once n c = record { once = lists_each_once d (element_count s) (grid_rows s) (grid_columns s); full = c.number }

pub compared_once : ComparedOnce
compared_once s k t j n e = once s k t j n (counts s k t j n e)

-- swapped

differ_at_swapped : (A B : ℕ → ℕ → ℕ → Result Cell Refusal) (r c e : ℕ) → differ_at A B r c e ≡ differ_at B A r c e
unfolding differ_at
differ_at_swapped A B r c e = differ_swapped (A r c e) (B r c e)

shape_swapped : (s t : List ℕ) → EqualShape s t → EqualShape t s
shape_swapped s t h =
    record {
      rows = sym h.rows;
      columns = sym h.columns;
      tile_rows_lem = sym h.tile_rows_lem;
      tile_columns_lem = sym h.tile_columns_lem;
      elements = sym h.elements;
      types = λ e l. sym (h.types e (omega (arith, h.elements)));
    }

cells_swapped : (s : List ℕ) (k : ℕ) (t : List ℕ) (j : ℕ) → EqualShape s t → differing_cells t j s k ≡ differing_cells s k t j
unfolding differing_cells
cells_swapped s k t j h =
    rw (← h.rows, ← h.columns, ← h.elements)
    (swapped_same (differ_at (meaning t j) (meaning s k)) (differ_at (meaning s k) (meaning t j)) (element_count s) (grid_rows s) (grid_columns s)
    (λ r c e i l m. differ_at_swapped (meaning t j) (meaning s k) r c e))

tiles_swapped : (s t : List ℕ) → EqualShape s t → tiling_of t ≡ tiling_of s
unfolding tiling_of
tiles_swapped s t h =
    let g = shape_grid s t h in
    same_tiling (tiling_of t) (tiling_of s) (λ r c. sym (same_cell s t g r c)) (λ r c. sym (same_inside s t g r c))

pub swapped : Swapped
unfolding unless_halted
swapped s k t j n e =
    let c = counts s k t j n e in
    let h = c.shape in
    let w = cells_swapped s k t j h in
    record {
      number = says t j s k halt.None c.accepted.1 c.accepted.0 (shape_swapped s t h)
          (none_refused t j s k
          (λ r d m i l o.
          let x = each_read s k t j c.read r d m (omega (arith, h.rows)) (omega (arith, h.columns)) (omega (arith, h.elements)) in
          (x.1, x.0)))
          ∙ ap Count (ap length w ∙ sym c.number);
      list = λ room. ap₂ (λ (v : Tiling) (l : List Entry). listed v room l) (tiles_swapped s t h) w;
    }

-- a page against itself

none_counted : (n : ℕ) (p : ℕ → Bool) → ((i : ℕ) → p i ≡ false) → count_below n p ≡ 0
unfolding count_below one_if
none_counted zero p f = refl
none_counted (suc n) p f = rw (none_counted n p f, f n)

differ_at_same : (A : ℕ → ℕ → ℕ → Result Cell Refusal) (r c e : ℕ) → differ_at A A r c e ≡ false
unfolding differ_at
differ_at_same A r c e = differ_same (A r c e)

none_differ : (A : ℕ → ℕ → ℕ → Result Cell Refusal) (n rows columns : ℕ) → count_in (differ_at A A) n 0 rows 0 columns ≡ 0
unfolding count_in
none_differ A n rows columns = inside_none ◌+◌ 0 sums 0 rows 0 columns _ (λ r c h. none_counted n (differ_at A A r c) (λ e. differ_at_same A r c e))

pub same : Same
unfolding unless_halted
same s k a f =
    says s k s k halt.None a a (record { rows = refl; columns = refl; tile_rows_lem = refl; tile_columns_lem = refl; elements = refl; types = λ e l. refl })
    (none_refused s k s k (λ r c e i l m. (f.each r c e i l m, f.each r c e i l m)))
    ∙ ap Count (sym (cells_counted s k s k) ∙ none_differ (meaning s k) (element_count s) (grid_rows s) (grid_columns s))

-- the refusals

pub refused_in_order : RefusedInOrder
unfolding unless_halted
refused_in_order s k t j =
    record {
      first = λ x e. sym (compared_first s k t j (check s) refl x e);
      second = λ x a e. sym (compared_second s k t j (check s) refl a (check t) refl x e);
      unlike = λ a b f. sym (compared_unlike s k t j (check s) refl a (check t) refl b (alike s t) refl (sym (not_alike s t f)));
      cell_first = λ a b h r c e i l m w x q.
          says s k t j (halt.First x) a b h
          (halts_at s k t j r c e i l m w (halt.First x) (halt_first (meaning s k r c e) (meaning t j r c e) _ refl x q) (first_not (halt.First x) x refl));
      cell_second = λ a b h r c e i l m w x q o.
          says s k t j (halt.Second x) a b h
          (halts_at s k t j r c e i l m w (halt.Second x) (halt_second (meaning s k r c e) (meaning t j r c e) _ refl _ refl q x o) (second_not (halt.Second x) x refl));
      counted = λ a b h p q.
          says s k t j halt.None a b h
          (none_refused s k t j
          (λ r c e i l m. (p.each r c e i l m, q.each r c e (omega (arith, h.rows)) (omega (arith, h.columns)) (omega (arith, h.elements)))));
    }
