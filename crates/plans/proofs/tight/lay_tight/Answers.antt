-- `plans::tight::lay_tight` meets its contract. Assumes nothing.
use borrow.Author.Rules.{rules}
use native.Mathlib.Omega.{arith}
use mathlib.Core.Path.{refl}
use lib.ListN.{length-set}
use Rattle.plans.proofs.KeptLaws.{next_room, next_less}
use Rattle.plans.proofs.TightLaws.{sliding_begin, sliding_end, sliding_plan, sliding_index, sliding_room, sliding_more}
use Rattle.plans.proofs.tight.lay_tight.Goals as goal

pub loop-x-init : goal.loop-x-init
loop-x-init c = (refl, sliding_begin _ _ _ c.requires c.header_end-at.ensures)

pub returns-in-None-clause-end : goal.returns-in-None-clause-end
returns-in-None-clause-end c = sliding_end c.loop-x.invariant.1 c.next_kept.ensures c.in-None.is

pub returns-in-None-clause-plan : goal.returns-in-None-clause-plan
returns-in-None-clause-plan c = sliding_plan c.loop-x.invariant.1 c.next_kept.ensures c.in-None.is

pub bounds-plan-k : goal.bounds-plan-k
bounds-plan-k c = sliding_index c.loop-x.invariant.1 c.next_kept.ensures c.in-Some.is c.u32_at-n.ensures

pub overflow_add-at : goal.overflow_add-at
overflow_add-at c = record { fits = omega (arith, next_room _ _ _ _ _ c.next_kept.ensures c.in-Some.is c.u32_at-n.ensures) }

pub overflow_add-e : goal.overflow_add-e
overflow_add-e c = record { fits = omega (arith, sliding_room c.loop-x.invariant.1 c.next_kept.ensures c.in-Some.is c.u32_at-n.ensures) }

pub overflow_add-k : goal.overflow_add-k
overflow_add-k c = record { fits = omega (arith, sliding_index c.loop-x.invariant.1 c.next_kept.ensures c.in-Some.is c.u32_at-n.ensures) }

pub loop-x-smaller : goal.loop-x-smaller
loop-x-smaller c = next_less _ _ _ _ _ c.next_kept.ensures c.in-Some.is c.u32_at-n.ensures

pub loop-x-preserved : goal.loop-x-preserved
loop-x-preserved c = (simp length-set (search rules), sliding_more c.loop-x.invariant.1 c.next_kept.ensures c.in-Some.is c.u32_at-n.ensures)
