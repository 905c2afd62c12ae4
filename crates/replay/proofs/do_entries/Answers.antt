-- `replay::do_entries` meets its contract. The loop's invariant: what is still to do comes to what the whole comes to. Assumes nothing.
use native.Mathlib.Omega.{arith}
use mathlib.Core.Path.{refl, ◌∙◌}
use Rattle.replay.proofs.LogLaws.{going_first, going_less, going_on, going_stop, going_end}
use Rattle.replay.proofs.do_entries.Goals as goal

pub loop-at-init : goal.loop-at-init
loop-at-init c = (going_first _ _ _ (record { small = λ i. omega (arith, c.type_inv.buf i) }) c.requires.0 c.requires.1, refl)

pub shape_of-buf-in-Err : goal.shape_of-buf-in-Err
shape_of-buf-in-Err c = c.do_entry.auto.buf ∙ c.loop-at.invariant.1

pub returns-in-Err : goal.returns-in-Err
returns-in-Err c = let all_of = going_stop _ _ _ _ c.loop-at.invariant.0 c.loop-at-test.true (record { small = λ i. omega (arith, c.type_inv.log i) }) c.do_entry.ensures.answer c.do_entry.ensures.buffer _ c.in-Err.is in record { answer = all_of.0; buffer = all_of.1 }

pub overflow_add-entries : goal.overflow_add-entries
overflow_add-entries c = omega (arith, c.loop-at.invariant.0.few)

pub loop-at-smaller : goal.loop-at-smaller
loop-at-smaller c = going_less _ _ _ _ c.loop-at.invariant.0 c.loop-at-test.true (record { small = λ i. omega (arith, c.type_inv.log i) }) c.do_entry.ensures.answer c.do_entry.ensures.buffer c.end_of_entry-at.ensures

pub loop-at-preserved : goal.loop-at-preserved
loop-at-preserved c = (going_on _ _ _ _ c.loop-at.invariant.0 c.loop-at-test.true (record { small = λ i. omega (arith, c.type_inv.log i) }) c.do_entry.ensures.answer c.do_entry.ensures.buffer _ c.in-Ok.is c.end_of_entry-at.ensures, c.do_entry.auto.buf ∙ c.loop-at.invariant.1)

pub shape_of-buf : goal.shape_of-buf
shape_of-buf c = c.loop-at.invariant.1

pub returns : goal.returns
returns c = let all_of = going_end _ _ _ _ c.loop-at.invariant.0 (omega arith) in record { answer = all_of.0; buffer = all_of.1 }
