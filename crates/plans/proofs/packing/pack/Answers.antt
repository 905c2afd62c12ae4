-- `plans::packing::pack` meets its contract. Assumes nothing.
use borrow.Author.Rules.{rules}
use native.Mathlib.Omega.{arith}
use mathlib.Core.Path.{refl}
use lib.ListN.{length-set}
use Rattle.plans.proofs.KeptLaws.{next_room}
use Rattle.plans.proofs.PackLaws.{packing_begin, packing_none, packing_end, packing_more}
use Rattle.plans.proofs.packing.pack.Goals as goal

pub loop-k-init : goal.loop-k-init
loop-k-init c = (refl, packing_begin _ _ _ c.header_end-at.ensures)

pub returns-in-None : goal.returns-in-None
returns-in-None c = packing_none c.loop-k.invariant.1 c.next_kept.ensures c.in-None.is

pub overflow_add-at : goal.overflow_add-at
overflow_add-at c = record { fits = omega (arith, next_room _ _ _ _ _ c.next_kept.ensures c.in-Some.is c.u32_at.ensures) }

pub loop-k-preserved : goal.loop-k-preserved
loop-k-preserved c = (simp length-set (search rules), packing_more c.loop-k.invariant.1 c.next_kept.ensures c.in-Some.is (omega arith) c.both_in.ensures c.u32_at.ensures)

pub returns : goal.returns
returns c = packing_end c.loop-k.invariant.1 (omega arith)
