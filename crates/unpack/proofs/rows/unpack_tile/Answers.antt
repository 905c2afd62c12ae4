-- `unpack::rows::unpack_tile` meets its contract. Assumes nothing.
use Rattle.predict.specs.Predict.{no_row}
use Prim.Native.Nat.{ℕ, ◌-◌}
use mathlib.Core.Path.{refl, ap, ◌∙◌}
use Rattle.unpack.proofs.HeadLaws.{head_means, small_tile, some_tile}
use Rattle.unpack.proofs.AnswerLaws.{answer_bad, answer_count, answer_good}
use lib.ListN.{length, length-set}
use native.Mathlib.Omega.{arith}
use Rattle.unpack.proofs.rows.unpack_tile.Goals as goal

pub bounds-row-0 : goal.bounds-row-0
bounds-row-0 c = omega (arith, head_means _ _ _ c.requires.head)

pub all_rows-requires : goal.all_rows-requires
all_rows-requires c = let h = head_means _ _ _ c.requires.head in record { few = c.requires.few; sides = (h.0, (h.1.0, (simp length-set (omega (arith, h)), simp length-set (omega (arith, h))))); shape = (simp length-set (omega (arith, c.requires.shape)), (simp length-set c.requires.shape.1.0, omega (arith, c.requires.shape.1.0, small_tile c.args.plan.rows (length c.args.row.now) h.1.0 h.1.1.1.0))) }

pub overflow_sub-plan : goal.overflow_sub-plan
overflow_sub-plan c = let h = head_means _ _ _ c.requires.head in omega (arith, c.requires.shape.1.0, some_tile c.args.plan.rows (length c.args.row.now) h.0 h.1.1.0)

pub shape_of-row-then-count_right : goal.shape_of-row-then-count_right
shape_of-row-then-count_right c = c.all_rows.auto.row ∙ length-set {A = ℕ} c.args.row.now 0 c.u32_at.result

pub returns-then-count_right : goal.returns-then-count_right
returns-then-count_right c = answer_good _ _ _ _ _ _ _ _ _ _ c.args.row.now _ _ _ c.requires.shape.1.1 c.u32_at.ensures (c.fill.ensures.after (λ y e. e) ∙ ap no_row c.requires.shape.0) refl (head_means _ _ _ c.requires.head).1.1.0 c.requires.head c.all_rows.ensures _ _ _ _ _ c.in_ok-tile.was c.u32_at-count.ensures (ap (λ (k : ℕ). k - 1) c.requires.shape.1.0) c.count_right.ensures c.if-count_right.true

pub returns-in_err-tile : goal.returns-in_err-tile
returns-in_err-tile c t n e g = rw c.from_residual.ensures (answer_bad _ _ _ _ _ _ _ _ _ _ c.args.row.now _ _ _ c.requires.shape.1.1 c.u32_at.ensures (c.fill.ensures.after (λ y e. e) ∙ ap no_row c.requires.shape.0) refl (head_means _ _ _ c.requires.head).1.1.0 c.requires.head c.all_rows.ensures c.in_err-tile.was t n e g)

pub returns : goal.returns
returns c = answer_count _ _ _ _ _ _ _ _ _ _ c.args.row.now _ _ _ c.requires.shape.1.1 c.u32_at.ensures (c.fill.ensures.after (λ y e. e) ∙ ap no_row c.requires.shape.0) refl (head_means _ _ _ c.requires.head).1.1.0 c.requires.head c.all_rows.ensures _ _ _ _ _ c.in_ok-tile.was c.u32_at-count.ensures (ap (λ (k : ℕ). k - 1) c.requires.shape.1.0) c.count_right.ensures c.if-count_right.false
