-- `tile_sizes::plain_length` meets its contract. Assumes nothing.
use native.Mathlib.Omega.{arith}
use Prim.Native.Nat.{◌+◌}
use mathlib.Core.Path.{sym}
use Rattle.wire.proofs.TestLaws.{sum_none}
use Rattle.tile_sizes.proofs.SizeLaws.{size_small, size_exact, stored_small, stored_more, plain_counted}
use borrow.Author.Rules.{rules}
use Rattle.tile_sizes.proofs.plain_length.Goals as goal

pub loop-e-init : goal.loop-e-init
loop-e-init c = (c.entries_read-e-end.ensures.is, sym (sum_none _))

pub overflow_cast-element_bytes : goal.overflow_cast-element_bytes
overflow_cast-element_bytes c = omega (arith, size_exact _ c.requires _ _ c.element_bytes.ensures (omega (arith, c.loop-e.invariant.0)), size_small _ c.requires c.loop-e.e (omega (arith, c.loop-e.invariant.0)))

pub overflow_add-sum : goal.overflow_add-sum
overflow_add-sum c = let t = stored_more _ c.requires _ _ _ _ c.element_bytes.ensures c.stored_size-sum.ensures c.loop-e.invariant.1 (omega (arith, c.loop-e.invariant.0)) in omega (arith, t, stored_small _ c.requires (c.loop-e.e + 1) (omega (arith, c.loop-e.invariant.0)))

pub loop-e-preserved : goal.loop-e-preserved
loop-e-preserved c = (search rules, stored_more _ c.requires _ _ _ _ c.element_bytes.ensures c.stored_size-sum.ensures c.loop-e.invariant.1 (omega (arith, c.loop-e.invariant.0)))

pub overflow_add-sum-2 : goal.overflow_add-sum-2
overflow_add-sum-2 c = omega (arith, c.loop-e.invariant.1, stored_small _ c.requires c.loop-e.e (omega (arith, c.loop-e.invariant.0)))

pub overflow_cast-sum : goal.overflow_cast-sum
overflow_cast-sum c = omega (arith, c.loop-e.invariant.1, stored_small _ c.requires c.loop-e.e (omega (arith, c.loop-e.invariant.0)))

pub returns : goal.returns
returns c = plain_counted _ c.requires _ _ _ _ c.loop-e.invariant.0 (omega arith) (omega arith) c.loop-e.invariant.1 c.least_length.ensures
