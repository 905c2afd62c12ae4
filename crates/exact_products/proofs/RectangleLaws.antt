-- The cells of a rectangle in one call: the refusals in their order. Assumes nothing.
use Prim.Native.Nat.{ℕ, ◌*◌, ◌≤◌}
use mathlib.Core.Path.{◌≡◌}
use mathlib.Core.Bool.{true, false}
use Rattle.wire.proofs.TestLaws.{yes, no}
use Rattle.answer.specs.Refusals.{unless_refused}
use Rattle.store.proofs.ManyLaws.{means_inside, not_inside}
use Rattle.rectangles.specs.Rectangles.{room_for, given_in, cells_given}
use Rattle.exact_products.specs.Rectangles.{RectanglesExactly}

module _ (rows columns kn bn : ℕ) where
  has_room : rows * columns ≤ kn → rows * columns ≤ bn → true ≡ room_for rows columns kn bn
  unfolding room_for
  has_room h k = yes _ (h, (k, tt))

  no_room : (rows * columns ≤ kn → rows * columns ≤ bn → ⊥) → false ≡ room_for rows columns kn bn
  unfolding room_for
  no_room f = no _ (λ p. f p.0 p.1.0)

pub rectangles_exactly : RectanglesExactly
unfolding cells_given given_in unless_refused
rectangles_exactly s e row column rows columns kn bn =
    record {
      checked = λ r q. rw q;
      outside = λ a f. rw (a, ← not_inside s e row column rows columns f);
      room = λ a h k l f. rw (a, ← means_inside s e row column rows columns h k l, ← no_room rows columns kn bn f);
      given = λ a h k l m n. rw (a, ← means_inside s e row column rows columns h k l, ← has_room rows columns kn bn m n);
    }
