-- `unpack::rows::unpack_into` meets its contract. Assumes nothing.
use Rattle.unpack.proofs.HeadLaws.{head_means, head_by, small_tile}
use Rattle.unpack.proofs.AnswerLaws.{answer_head, answer_root, answer_tile_lem, cut_long}
use Prim.Native.Nat.{ℕ, ◌*◌}
use mathlib.Core.Path.{sym, ap, ◌∙◌}
use native.Mathlib.Omega.{arith}
use borrow.Author.Rules.{rules}
use Rattle.unpack.proofs.rows.unpack_into.Goals as goal

pub returns-in_err-start : goal.returns-in_err-start
returns-in_err-start c = rw c.from_residual.ensures (answer_root _ _ _ _ _ _ _ _ _ (c.read_root.ensures (omega arith)) c.in_err-start.was)

pub overflow_mul-plan : goal.overflow_mul-plan
overflow_mul-plan c = omega (arith, small_tile _ _ (head_means c.args.c.now c.args.rows c.args.columns (sym c.head_right.ensures ∙ c.if-not-head_right.false)).1.0 (head_means c.args.c.now c.args.rows c.args.columns (sym c.head_right.ensures ∙ c.if-not-head_right.false)).1.1.1.0)

pub slice_bounds-above-end : goal.slice_bounds-above-end
slice_bounds-above-end c = (head_means c.args.c.now c.args.rows c.args.columns (sym c.head_right.ensures ∙ c.if-not-head_right.false)).1.1.1.0

pub slice_bounds-unpack_tile-end-2 : goal.slice_bounds-unpack_tile-end-2
slice_bounds-unpack_tile-end-2 c = sym (cut_long _ (head_means c.args.c.now c.args.rows c.args.columns (sym c.head_right.ensures ∙ c.if-not-head_right.false)).1.1.1.0)

pub slice_bounds-row-end : goal.slice_bounds-row-end
slice_bounds-row-end c = (head_means c.args.c.now c.args.rows c.args.columns (sym c.head_right.ensures ∙ c.if-not-head_right.false)).1.1.1.0

pub slice_bounds-unpack_tile-end-3 : goal.slice_bounds-unpack_tile-end-3
slice_bounds-unpack_tile-end-3 c = sym (cut_long _ (head_means c.args.c.now c.args.rows c.args.columns (sym c.head_right.ensures ∙ c.if-not-head_right.false)).1.1.1.0)

pub unpack_tile-requires : goal.unpack_tile-requires
unpack_tile-requires c = let e = cut_long _ (head_means c.args.c.now c.args.rows c.args.columns (sym c.head_right.ensures ∙ c.if-not-head_right.false)).1.1.1.0 in record { few = search rules; head = head_by _ _ _ _ _ c.head_right.ensures c.if-not-head_right.false e; shape = (e ∙ sym e, (ap (λ (k : ℕ). c.args.rows * k) (sym e), c.byte_at.ensures.is)) }

pub returns : goal.returns
returns c = answer_tile_lem _ _ _ _ _ _ _ _ _ _ _ _ (c.read_root.ensures (omega arith)) c.in_ok-start.was (cut_long _ (head_means c.args.c.now c.args.rows c.args.columns (sym c.head_right.ensures ∙ c.if-not-head_right.false)).1.1.1.0) c.unpack_tile.ensures

pub returns-then-not-head_right : goal.returns-then-not-head_right
returns-then-not-head_right c = answer_head _ _ _ _ _ _ _ _ c.head_right.ensures c.if-not-head_right.true
