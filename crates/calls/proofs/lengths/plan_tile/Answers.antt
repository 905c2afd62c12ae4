-- `calls::lengths::plan_tile` meets its contract. Assumes nothing.
use native.Mathlib.Omega.{arith}
use Rattle.calls.proofs.LengthLaws.{plan_over, plan_near, plan_end, plan_within}
use Rattle.calls.proofs.lengths.plan_tile.Goals as goal

pub returns-in-Some : goal.returns-in-Some
returns-in-Some c = plan_over _ _ _ c.stored_over-over.ensures c.in-Some.is

pub overflow_add-end : goal.overflow_add-end
overflow_add-end c = omega (arith, plan_near _ _ c.requires c.stored_over-over.ensures c.in_default.is c.plain_tile_length-long.ensures c.spot_for-spot.ensures.is c.spot_for-spot.ensures.near)

pub returns-then-n-end : goal.returns-then-n-end
returns-then-n-end c = plan_end _ _ c.requires c.stored_over-over.ensures c.in_default.is c.plain_tile_length-long.ensures c.spot_for-spot.ensures.is (omega arith)

pub returns : goal.returns
returns c = plan_within _ _ c.requires c.stored_over-over.ensures c.in_default.is c.plain_tile_length-long.ensures c.spot_for-spot.ensures.is (omega arith)
