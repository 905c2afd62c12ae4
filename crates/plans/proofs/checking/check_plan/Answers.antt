-- `plans::checking::check_plan` meets its contract. Assumes nothing.
use native.Mathlib.Omega.{arith}
use mathlib.Core.Path.{refl, sym, ◌∙◌}
use Rattle.plans.proofs.KeptLaws.{next_room}
use Rattle.plans.proofs.CheckLaws.{judging_begin, judging_over, judging_few, judging_many, judging_wrong, judging_more, judging_room}
use Rattle.plans.proofs.checking.check_plan.Goals as goal

pub loop-k-init : goal.loop-k-init
loop-k-init c = judging_begin _ _ _ c.header_end-at.ensures

pub returns-in-None : goal.returns-in-None
returns-in-None c = judging_many c.loop-k.invariant c.next_kept.ensures (omega arith) refl c.in-None.is

pub overflow_add-at : goal.overflow_add-at
overflow_add-at c = record { fits = omega (arith, next_room _ _ _ _ _ c.next_kept.ensures c.in-Some.is c.u32_at-n.ensures) }

pub overflow_add-e : goal.overflow_add-e
overflow_add-e c = record { fits = omega (arith, judging_room c.loop-k.invariant c.next_kept.ensures _ c.in-Some.is c.u32_at-n.ensures (sym c.if-start_right.true ∙ c.start_right.ensures)) }

pub loop-k-preserved : goal.loop-k-preserved
loop-k-preserved c = judging_more c.loop-k.invariant c.next_kept.ensures (omega arith) refl c.in-Some.is c.u32_at-n.ensures (sym c.if-start_right.true ∙ c.start_right.ensures)

pub returns-else-start_right : goal.returns-else-start_right
returns-else-start_right c = judging_wrong c.loop-k.invariant c.next_kept.ensures (omega arith) refl c.in-Some.is (sym c.if-start_right.false ∙ c.start_right.ensures)

pub returns-in-None-next_kept : goal.returns-in-None-next_kept
returns-in-None-next_kept c = judging_over c.loop-k.invariant c.next_kept-2.ensures (omega arith) c.in-None-next_kept.is

pub returns-in-Some-next_kept : goal.returns-in-Some-next_kept
returns-in-Some-next_kept c = judging_few c.loop-k.invariant c.next_kept-2.ensures (omega arith) c.in-Some-next_kept.is
