-- What the call answers and writes, by its tests in their order. Assumes nothing.
use Rattle.std.specs.Prelude.{Err, Ok, Result, ⊤}
use Prim.Native.Nat.{ℕ, ◌*◌, ◌≤◌}
use mathlib.Core.Path.{◌≡◌, sym, ◌∙◌}
use mathlib.Core.List.{List, [], ◌∷◌}
use mathlib.Core.Bool.{Bool, true, false}
use native.Mathlib.Omega.{arith}
use native.Mathlib.Nat.{mul-le-mul}
use lib.ListN.{length}
use Rattle.wire.specs.Tests.{◌≤?◌}
use Rattle.wire.specs.Bytes.{put}
use Rattle.wire.proofs.TestLaws.{yes, no}
use Rattle.wire.proofs.PutLaws.{put_nil}
use Rattle.answer.specs.declared.Refusal.{Refusal}
use Rattle.answer.specs.declared.Refusal.TheVariants.{OutsideGrid, Room}
use Rattle.answer.specs.Answers.{cell_kind, cell_bits}
use Rattle.answer.specs.Refusals.{unless_refused}
use Rattle.store.specs.declared.many.Rectangle.{Rectangle}
use Rattle.store.specs.Face.{most_grid_side, check, rectangle_inside, Accepts}
use Rattle.store.proofs.PieceLaws.{rectangle_small}
use Rattle.blocks.specs.Tables.{Inside}
use Rattle.blocks.proofs.TableLaws.{tabled_long, tabled_at, filled_all}
use Rattle.rectangles.specs.Rectangles.{room_for, given_in, cells_given, cell_says, written, CellsByRows}
use Rattle.rectangles.specs.Pieces.{HasRoom, Told}

-- nothing is written of a refused call
pub none_written : (x : Result ℕ Refusal) (r : Refusal) (k b : List ℕ) → Err r ≡ x → (Err r ≡ x) × ((k ≡ put k 0 []) × (b ≡ put b 0 []))
none_written x r k b e = (e, (sym (put_nil k 0), sym (put_nil b 0)))

-- of a rectangle in the grid

pub no_room : (rows columns kn bn : ℕ) → (rows * columns ≤ kn → rows * columns ≤ bn → ⊥) → Err Room ≡ given_in rows columns kn bn
unfolding given_in room_for
no_room rows columns kn bn f = rw (← no ((rows * columns ≤? kn) ∷ (rows * columns ≤? bn) ∷ []) (λ h. f h.0 h.1.0))

module _ (s : List ℕ) (a : Rectangle) (g : Accepts s a) where
  pub cells_few : a.rows * a.columns ≤ most_grid_side * most_grid_side
  cells_few =
      let p : a.rows ≤ most_grid_side = omega (arith, rectangle_small s a g) in
      let q : a.columns ≤ most_grid_side = omega (arith, rectangle_small s a g) in
      mul-le-mul p q

  pub has_room : (k b : List ℕ) → a.rows * a.columns ≤ length k → a.rows * a.columns ≤ length b → HasRoom a k b
  has_room k b p q = let small = rectangle_small s a g in record { rows_small = small.0; columns_small = small.1; kinds = p; bits = q }

pub all_given :
    (s : List ℕ) (ci : ℕ) (a : Rectangle) (k k' b b' : List ℕ) → Told s ci a (Inside 0 a.rows 0 a.columns) k k' b b' → a.rows * a.columns ≤ length k →
    a.rows * a.columns ≤ length b →
    (Ok (a.rows * a.columns) ≡ given_in a.rows a.columns (length k) (length b))
    × ((k' ≡ put k 0 (written cell_kind s ci a.e a.row a.column a.rows a.columns (Ok (a.rows * a.columns))))
    × (b' ≡ put b 0 (written cell_bits s ci a.e a.row a.column a.rows a.columns (Ok (a.rows * a.columns)))))
unfolding given_in room_for
all_given s ci a k k' b b' t p q = (rw (← yes ((a.rows * a.columns ≤? length k) ∷ (a.rows * a.columns ≤? length b) ∷ []) (p, (q, tt))), (filled_all t.kinds p, filled_all t.bits q))

-- behind the check

module _ (s : List ℕ) (e row column rows columns kn bn : ℕ) (v : Result ⊤ Refusal) (p : v ≡ check s) where
  pub given_refused : (r : Refusal) → v ≡ Err r → Err r ≡ cells_given s e row column rows columns kn bn
  unfolding cells_given unless_refused
  given_refused r q = rw (← p, q)

  module _ (b : Bool) (i : b ≡ rectangle_inside s e row column rows columns) (q : v ≡ Ok tt) where
    pub given_outside : b ≡ false → Err OutsideGrid ≡ cells_given s e row column rows columns kn bn
    unfolding cells_given unless_refused
    given_outside f = rw (← p, q, ← i, f)

    pub given_inside : (x : Result ℕ Refusal) → b ≡ true → x ≡ given_in rows columns kn bn → x ≡ cells_given s e row column rows columns kn bn
    unfolding cells_given unless_refused
    given_inside x f z = z ∙ rw (← p, q, ← i, f)

-- the numbers by rows
pub cells_by_rows : CellsByRows
unfolding cell_says
cells_by_rows f s ci e row column rows columns n =
    let g = cell_says f s ci e row column in
    record { long = tabled_long rows columns g; each = λ r c h k. tabled_at rows columns g r c h k }
