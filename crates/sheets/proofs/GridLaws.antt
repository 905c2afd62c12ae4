-- The whole grid as a rectangle, whether a page can be a sheet, and the first fault. Assumes nothing.
use Rattle.std.specs.Prelude.{Err, Ok, Result, ⊤}
use Rattle.answer.specs.declared.Refusal.{Refusal}
use Prim.Native.Nat.{ℕ, max, ◌+◌, ◌-◌, ◌*◌, ◌/◌, ◌%◌, ◌≤◌, ◌<◌}
use mathlib.Core.Path.{◌≡◌, refl, sym, ap, ◌∙◌}
use mathlib.Core.List.{List}
use mathlib.Core.Bool.{Bool, true, false}
use mathlib.Core.Logic.{by_cases}
use native.Mathlib.Decide.{dec_le}
use native.Mathlib.Omega.{arith}
use native.Mathlib.Nat.{mul-le-mul}
use lib.Dec.{eqb}
use borrow.Author.Tests.{ne_eqb}
use Rattle.wire.specs.Pick.{pick}
use Rattle.wire.proofs.TestLaws.{means, no, either_way, not_both}
use Rattle.blocks.specs.Tables.{Inside}
use Rattle.blocks.proofs.TableLaws.{place_row}
use Rattle.blocks.proofs.InsideLaws.{inside_found}
use Rattle.answer.specs.declared.Refusal.TheVariants.{Input}
use Rattle.answer.specs.declared.Cell.{Cell}
use Rattle.answer.specs.declared.Held.{Held}
use Rattle.answer.specs.Refusals.{gate}
use Rattle.answer.proofs.VerdictLaws.{gate_passed}
use Rattle.store.specs.declared.many.Rectangle.{Rectangle}
use Rattle.store.specs.declared.pieces.Piece.{Piece}
use Rattle.store.specs.Face.{grid_rows, grid_columns, element_count, tile_count, check, held_cell, first_piece, Holds, Accepts}
use Rattle.store.proofs.ManyLaws.{means_inside}
use Rattle.store.proofs.PieceLaws.{walk_first, answered_piece}
use Rattle.score_rule.specs.declared.Said.{Said}
use Rattle.score_rule.specs.declared.Said.TheVariants.{First, Second, Wrong}
use Rattle.score_rule.specs.Rules.{page_says}
use Rattle.lay_down.specs.Sheet.{score_element}
use Rattle.lay_down.proofs.SheetLaws.{score_of_lem}
use Rattle.sheets.specs.Back.{is_first, sheetable, fault, fault_in, score_cell, judged_out}
use Rattle.sheets.specs.First.{is_fault, weight, heaviest, fault_at}
use Rattle.sheets.specs.Rows.{whole_grid, AtOrigin, grid_fault, Sides}
use Rattle.sheets.proofs.FirstLaws.{either, first_by_rows}

-- the rule, as it is matched

pub says_first : (x : Said) → x ≡ First → true ≡ is_first x
unfolding is_first
says_first x e = rw e

pub says_second : (x : Said) → x ≡ Second → false ≡ is_first x
unfolding is_first
says_second x e = rw e

pub says_wrong : (x : Said) → x ≡ Wrong → false ≡ is_first x
unfolding is_first
says_wrong x e = rw e

pub whole_is :
    (s : List ℕ) (m n : ℕ) → m ≡ grid_rows s → n ≡ grid_columns s → ◌≡◌ {A = Rectangle} (record { e = 0; row = 0; column = 0; rows = m; columns = n }) (whole_grid s)
whole_is s m n e f = rw (e, f)

pub sides_small : (m n : ℕ) → m ≤ 65535 → n ≤ 65535 → m * n ≤ 4294836225
sides_small m n h k = mul-le-mul h k

-- whether a page can be a sheet

module _ (s : List ℕ) (a : Rectangle) (e : a ≡ whole_grid s) where
  rows_of : a.rows ≡ grid_rows s
  rows_of = ap (λ (b : Rectangle). b.rows) e

  columns_of : a.columns ≡ grid_columns s
  columns_of = ap (λ (b : Rectangle). b.columns) e

  pub too_tall : 65535 < a.rows → false ≡ sheetable s
  unfolding sheetable
  too_tall h = no _ (λ y. omega (arith, y.1.1.0, rows_of))

  pub too_wide : 65535 < a.columns → false ≡ sheetable s
  unfolding sheetable
  too_wide h = no _ (λ y. omega (arith, y.1.1.1.0, columns_of))

  pub too_long_lem : 4294967295 < 5 + 2 * (a.rows * a.columns) → false ≡ sheetable s
  unfolding sheetable
  too_long_lem h = no _ (λ y. let z : 4294967295 < 5 + 2 * (grid_rows s * grid_columns s) = rw (← rows_of, ← columns_of) h in omega (arith, y.1.1.1.1.0))

  module _ (x : Said) (b : Bool) (p : x ≡ page_says s) (q : b ≡ is_first x) where
    pub other_rule : b ≡ false → false ≡ sheetable s
    unfolding sheetable
    other_rule z = no _ (λ y. not_both (q ∙ ap is_first p ∙ y.1.0) z)

    pub first_rule_lem :
        b ≡ true → (d : Bool) → d ≡ score_element s → a.rows ≤ 65535 → a.columns ≤ 65535 → 5 + 2 * (a.rows * a.columns) ≤ 4294967295 → d ≡ sheetable s
    unfolding sheetable
    first_rule_lem z d f h i j =
        let k : 5 + 2 * (grid_rows s * grid_columns s) ≤ 4294967295 = rw (← rows_of, ← columns_of) j in
        either_way _ d (λ y. (sym f ∙ y, (sym (q ∙ ap is_first p) ∙ z, (omega (arith, rows_of), (omega (arith, columns_of), (k, tt))))))
        (λ y g. not_both (f ∙ g.0) y)

  -- and if it can, what follows

  module _ (t : sheetable s ≡ true) where
    pub sides_few : Sides a.rows a.columns
    unfolding sheetable
    sides_few = let m = means _ t in record { rows_few = omega (arith, rows_of, m.1.1.0); columns_few = omega (arith, columns_of, m.1.1.1.0) }

    pub scores_there : score_element s ≡ true
    unfolding sheetable
    scores_there = (means _ t).0

    pub one_there : 1 ≤ element_count s
    one_there = omega (arith, (score_of_lem s scores_there).one)

    pub whole_accepts : check s ≡ Ok tt → Accepts s a × AtOrigin a
    whole_accepts c =
        let i = sym (means_inside s 0 0 0 (grid_rows s) (grid_columns s) (omega (arith, one_there)) (omega arith) (omega arith)) in
        rw e (record { accepted = c; inside = i }, (refl, (refl, refl)))

-- one cell of it

module _ (s : List ℕ) (k r c : ℕ) (g : (check s ≡ Ok tt) × ((r < grid_rows s) × ((c < grid_columns s) × (1 ≤ element_count s)))) where
  abbrev here : Rectangle
  here = record { e = 0; row = r; column = c; rows = 1; columns = 1 }

  cell_accepts : Accepts s here
  cell_accepts =
      record { accepted = g.0; inside = sym (means_inside s 0 r c 1 1 (omega (arith, g.1.1.1)) (omega (arith, g.1.0)) (omega (arith, g.1.1.0))) }

  pub cell_asked :
      (p : Piece) (x : Result Held Refusal) (m : List ℕ) (y : Result Cell Refusal) → p ≡ first_piece s here 0 →
      (check s ≡ Ok tt → p.tile < tile_count s → 0 < element_count s → Holds s k p.tile 0 x m) → y ≡ held_cell s k x m r c 0 → y ≡ score_cell s k r c
  unfolding score_cell
  cell_asked p x m y e h f =
      let w = walk_first s here cell_accepts 0 p e (omega arith) in
      let t : p.top ≡ 0 = w.1.at (omega arith) in
      let l : p.left ≡ 0 = w.1.first in
      let at = w.0.piece (omega arith) in
      let i : Inside p.top p.bottom p.left p.right 0 0 =
      record { from_top = omega arith; to_bottom = omega (arith, at.sides); from_left = omega arith; to_right = omega (arith, at.sides) }
      in
      let d = (answered_piece s k here p x m h cell_accepts at).each 0 0 i in
      let y : r + 0 ≡ r = omega arith in
      let z : c + 0 ≡ c = omega arith in
      f ∙ rw (y, z) at d

-- the fault of a weight

module _ (s : List ℕ) (k : ℕ) (a : Rectangle) (w : ℕ) where
  pub no_fault : w ≡ 0 → Ok tt ≡ fault_at a.rows a.columns (grid_fault s k) w
  unfolding fault_at
  no_fault e = rw e

  pub fault_there :
      (n : ℕ) → n ≡ a.rows * a.columns - w → (w ≡ 0 → ⊥) → (x : Result Cell Refusal) (v : Result ⊤ Refusal) → x ≡ score_cell s k (n / a.columns) (n % a.columns) → v ≡ fault x →
      v ≡ fault_at a.rows a.columns (grid_fault s k) w
  unfolding fault_at grid_fault
  fault_there n f h x v p q = let z : eqb w 0 ≡ false = ne_eqb w 0 h in q ∙ rw (p, f, z)

-- that cell is in the grid

module _ (a : Rectangle) (w n : ℕ) (f : n ≡ a.rows * a.columns - w) (h : w ≡ 0 → ⊥) (l : w ≤ a.rows * a.columns) where
  pub fault_place : (n / a.columns < a.rows) × (n % a.columns < a.columns)
  fault_place =
      let k : 1 ≤ w = by_cases (dec_le 1 w) (λ y. y) (λ y. absurd (h (omega arith))) in
      let p = place_row a.rows a.columns n (omega arith) in
      (p.0, p.1)

  pub fault_asks :
      (s : List ℕ) → (check s ≡ Ok tt) × ((a ≡ whole_grid s) × (1 ≤ element_count s)) →
      (check s ≡ Ok tt) × ((n / a.columns < grid_rows s) × ((n % a.columns < grid_columns s) × (1 ≤ element_count s)))
  fault_asks s g =
      let r : a.rows ≡ grid_rows s = ap (λ (b : Rectangle). b.rows) g.1.0 in
      let c : a.columns ≡ grid_columns s = ap (λ (b : Rectangle). b.columns) g.1.0 in
      let p = fault_place in
      (g.0, (rw (← r) p.0, (rw (← c) p.1, g.1.1)))

-- no weight is more than all cells
module _ (rows columns : ℕ) (g : ℕ → ℕ → Result ⊤ Refusal) where
  weight_small : (r c : ℕ) → weight rows columns g r c ≤ rows * columns
  unfolding weight
  weight_small r c = go (is_fault (g r c))
    where
      go : (b : Bool) → pick b (rows * columns - (r * columns + c)) 0 ≤ rows * columns
      go true = omega arith
      go false = omega arith

  weight_few : heaviest rows columns g 0 rows 0 columns ≤ rows * columns
  unfolding heaviest
  weight_few =
      by_cases (dec_le (heaviest rows columns g 0 rows 0 columns) 0) (λ h. omega arith)
      (λ h.
      let y = inside_found max 0 either 0 rows 0 columns (weight rows columns g) (λ e. h (omega arith)) in
      omega (arith, y.3, weight_small y.0 y.1))

  pub weighed_few : (w : ℕ) → w ≡ heaviest rows columns g 0 rows 0 columns → w ≤ rows * columns
  weighed_few w e = omega (arith, e, weight_few)

-- what is judged behind the check

module _ (s : List ℕ) (k : ℕ) (b : Bool) (e : b ≡ sheetable s) where
  pub judged_not : b ≡ false → Err Input ≡ judged_out s k
  unfolding judged_out gate
  judged_not f = rw (← e, f)

  pub judged_by_lem :
      b ≡ true → (a : Rectangle) (w : ℕ) (v : Result ⊤ Refusal) → a ≡ whole_grid s → w ≡ heaviest a.rows a.columns (grid_fault s k) 0 a.rows 0 a.columns →
      v ≡ fault_at a.rows a.columns (grid_fault s k) w → v ≡ judged_out s k
  unfolding judged_out gate fault_in grid_fault
  judged_by_lem f a w v p q g = let z : sheetable s ≡ true = sym e ∙ f in rw z (g ∙ (rw (q, p)) ∙ sym (first_by_rows (grid_rows s) (grid_columns s) (grid_fault s k)))

pub judged_able : (s : List ℕ) (k : ℕ) → judged_out s k ≡ Ok tt → sheetable s ≡ true
unfolding judged_out
judged_able s k e = (gate_passed (sheetable s) Input _ e).0

-- of a page that nothing refuses behind the check, the sides and the number of cells

module _ (s : List ℕ) (k : ℕ) (j : judged_out s k ≡ Ok tt) (a : Rectangle) (e : a ≡ whole_grid s) where
  pub out_sides : Sides a.rows a.columns
  out_sides = sides_few s a e (judged_able s k j)

  pub out_cells : a.rows * a.columns ≤ 4294836225
  out_cells = sides_small a.rows a.columns out_sides.rows_few out_sides.columns_few

  pub out_accepts : check s ≡ Ok tt → Accepts s a × (AtOrigin a × (score_element s ≡ true))
  out_accepts c =
      let t = judged_able s k j in
      let w = whole_accepts s a e t c in
      (w.0, (w.1, scores_there s a e t))
