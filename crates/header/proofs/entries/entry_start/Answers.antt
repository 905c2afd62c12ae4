-- `header::entries::entry_start` meets its contract. Assumes nothing.
use native.Mathlib.Omega.{arith}
use Rattle.wire.proofs.ItemLaws.{items_stop, items_end}
use Rattle.header.proofs.EntryLaws.{entries_begin, items_next}
use Rattle.header.proofs.entries.entry_start.Goals as goal

pub loop-init : goal.loop-init
loop-init c = (entries_begin _ _ _ c.header_limit-limit.ensures.is, omega arith)

pub loop-preserved : goal.loop-preserved
loop-preserved c = (items_next _ _ _ _ _ _ _ c.loop.invariant.0 (omega arith) (omega arith) c.entry_end-at.ensures.is, omega arith)

pub returns-after-loop-clause-is : goal.returns-after-loop-clause-is
returns-after-loop-clause-is c = items_end _ _ _ _ _ c.loop.invariant.0 (omega arith)

pub returns-then-limit-at-clause-is : goal.returns-then-limit-at-clause-is
returns-then-limit-at-clause-is c = items_stop _ _ _ _ _ c.loop.invariant.0 (omega arith)
