-- `tile_sizes::element_sizes` meets its contract. Assumes nothing.
use native.Mathlib.Omega.{arith}
use mathlib.Core.Path.{sym, ◌∙◌}
use Rattle.tile_sizes.proofs.SizeLaws.{size_small, size_exact, sizes_none, sizes_room, sizes_more, sizes_short, sizes_all, sizes_off}
use Rattle.tile_sizes.proofs.element_sizes.Goals as goal

pub returns-then-sizes-n : goal.returns-then-sizes-n
returns-then-sizes-n c = sizes_short _ _ _ c.entries_read-n.ensures.is (omega arith)

pub loop-e-init : goal.loop-e-init
loop-e-init c = sizes_none _ _

pub overflow_cast-sizes : goal.overflow_cast-sizes
overflow_cast-sizes c = omega (arith, size_exact _ (sym c.is_small.ensures ∙ c.if-is_small.true) _ _ c.element_bytes.ensures (omega (arith, c.entries_read-n.ensures.is)), size_small _ (sym c.is_small.ensures ∙ c.if-is_small.true) c.loop-e.e (omega (arith, c.entries_read-n.ensures.is)))

pub bounds-sizes-e : goal.bounds-sizes-e
bounds-sizes-e c = omega (arith, sizes_room _ _ _ c.loop-e.invariant)

pub loop-e-preserved : goal.loop-e-preserved
loop-e-preserved c = sizes_more _ _ c.loop-e.e _ c.loop-e.invariant (size_exact _ (sym c.is_small.ensures ∙ c.if-is_small.true) _ _ c.element_bytes.ensures (omega (arith, c.entries_read-n.ensures.is))) (omega arith)

pub shape_of-sizes : goal.shape_of-sizes
shape_of-sizes c = sizes_room _ _ _ c.loop-e.invariant

pub returns-after-loop-e : goal.returns-after-loop-e
returns-after-loop-e c = sizes_all _ _ c.loop-e.e _ (sym c.is_small.ensures ∙ c.if-is_small.true) c.entries_read-n.ensures.is (omega arith) (omega arith) c.loop-e.invariant

pub returns-else-is_small : goal.returns-else-is_small
returns-else-is_small c = sizes_off _ _ (sym c.is_small.ensures ∙ c.if-is_small.false)
