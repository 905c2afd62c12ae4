-- `plans::kept::kept_count` meets its contract. Assumes nothing.
use native.Mathlib.Omega.{arith}
use Rattle.plans.proofs.KeptLaws.{next_room, next_less, counting_begin, counting_over, counting_more, counting_room}
use Rattle.plans.proofs.kept.kept_count.Goals as goal

pub loop-x-init : goal.loop-x-init
loop-x-init c = counting_begin _ _ c.header_end-at.ensures

pub returns-in-None : goal.returns-in-None
returns-in-None c = counting_over c.loop-x.invariant c.next_kept.ensures c.in-None.is

pub overflow_add-at : goal.overflow_add-at
overflow_add-at c = record { fits = omega (arith, next_room _ _ _ _ _ c.next_kept.ensures c.in-Some.is c.u32_at.ensures) }

pub overflow_add-found : goal.overflow_add-found
overflow_add-found c = record { fits = omega (arith, counting_room c.loop-x.invariant c.next_kept.ensures c.in-Some.is c.u32_at.ensures) }

pub loop-x-smaller : goal.loop-x-smaller
loop-x-smaller c = next_less _ _ _ _ _ c.next_kept.ensures c.in-Some.is c.u32_at.ensures

pub loop-x-preserved : goal.loop-x-preserved
loop-x-preserved c = counting_more c.loop-x.invariant c.next_kept.ensures c.in-Some.is c.u32_at.ensures
