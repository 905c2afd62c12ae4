-- The cells of a rectangle in one call: the refusals in their order, and that what is not refused is given. kn and bn are the lengths of the
-- lists for kinds and bits.
use Rattle.std.specs.Prelude.{ℕ, ◌+◌, ◌*◌, ◌≤◌, ◌<◌, ◌≡◌, List, Err, Ok}
use Rattle.answer.specs.declared.Refusal.{Refusal}
use Rattle.answer.specs.declared.Refusal.TheVariants.{OutsideGrid, Room}
use Rattle.store.specs.Face.{grid_rows, grid_columns, element_count, check}
use Rattle.rectangles.specs.Rectangles.{cells_given}

pub record RectangleExactly (s : List ℕ) (e row column rows columns kn bn : ℕ) : Type 0 where
  pub checked : (r : Refusal) → check s ≡ Err r → cells_given s e row column rows columns kn bn ≡ Err r
  pub outside :
      check s ≡ Ok tt → (e < element_count s → row + rows ≤ grid_rows s → column + columns ≤ grid_columns s → ⊥) →
      cells_given s e row column rows columns kn bn ≡ Err OutsideGrid
  pub room :
      check s ≡ Ok tt → e < element_count s → row + rows ≤ grid_rows s → column + columns ≤ grid_columns s →
      (rows * columns ≤ kn → rows * columns ≤ bn → ⊥) → cells_given s e row column rows columns kn bn ≡ Err Room
  pub given :
      check s ≡ Ok tt → e < element_count s → row + rows ≤ grid_rows s → column + columns ≤ grid_columns s → rows * columns ≤ kn →
      rows * columns ≤ bn → cells_given s e row column rows columns kn bn ≡ Ok (rows * columns)

abbrev pub RectanglesExactly : Type 0
RectanglesExactly = (s : List ℕ) (e row column rows columns kn bn : ℕ) → RectangleExactly s e row column rows columns kn bn
