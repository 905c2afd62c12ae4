-- `header::tail::product_label_at` meets its contract. Assumes nothing.
use native.Mathlib.Omega.{arith}
use Rattle.wire.proofs.ItemLaws.{items_stop, items_end}
use Rattle.header.proofs.EntryLaws.{strings_next, methods_begin}
use Rattle.header.proofs.tail.product_label_at.Goals as goal

pub loop-init : goal.loop-init
loop-init c = (methods_begin _ _ _ _ c.header_limit-limit.ensures.is c.methods_at-at.ensures.is c.method_count-end.ensures, omega arith)

pub loop-preserved : goal.loop-preserved
loop-preserved c = (strings_next _ _ _ _ _ _ _ c.loop.invariant.0 (omega arith) (omega arith) c.string_size-at.ensures.is, omega arith)

pub returns-after-loop-clause-is : goal.returns-after-loop-clause-is
returns-after-loop-clause-is c = items_end _ _ _ _ _ c.loop.invariant.0 (omega arith)

pub returns-then-limit-at-clause-is : goal.returns-then-limit-at-clause-is
returns-then-limit-at-clause-is c = items_stop _ _ _ _ _ c.loop.invariant.0 (omega arith)
