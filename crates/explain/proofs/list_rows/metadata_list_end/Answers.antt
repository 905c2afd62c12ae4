-- `explain::list_rows::metadata_list_end` meets its contract. Assumes nothing.
use borrow.Author.Rules.{rules}
use native.Mathlib.Omega.{arith}
use Rattle.wire.proofs.ItemLaws.{items_step, items_stop, items_end}
use Rattle.check_lists.proofs.MetadataLaws.{end_is, entries_begin}
use Rattle.explain.proofs.list_rows.metadata_list_end.Goals as goal

pub loop-left-init : goal.loop-left-init
loop-left-init c = (search (rules, entries_begin), omega arith)

pub returns-then-limit-p-clause-is : goal.returns-then-limit-p-clause-is
returns-then-limit-p-clause-is c = items_stop _ _ _ _ _ c.loop-left.invariant.0 (omega arith)

pub returns-then-limit-p-clause-near : goal.returns-then-limit-p-clause-near
returns-then-limit-p-clause-near c = omega (arith, c.loop-left.invariant.1)

pub overflow_add-p-in-loop-left : goal.overflow_add-p-in-loop-left
overflow_add-p-in-loop-left c = record { fits = omega (arith, c.metadata_entry_size-p.ensures.near, c.record_limit-limit.ensures.inside) }

pub loop-left-preserved : goal.loop-left-preserved
loop-left-preserved c = (items_step _ _ _ _ _ _ c.loop-left.invariant.0 (omega arith) (omega arith) (end_is _ _ _ c.metadata_entry_size-p.ensures.is), omega (arith, c.metadata_entry_size-p.ensures.near, c.record_limit-limit.ensures.inside))

pub returns-clause-is : goal.returns-clause-is
returns-clause-is c = items_end _ _ _ _ _ c.loop-left.invariant.0 (omega arith)

pub returns-clause-near : goal.returns-clause-near
returns-clause-near c = omega (arith, c.loop-left.invariant.1)
