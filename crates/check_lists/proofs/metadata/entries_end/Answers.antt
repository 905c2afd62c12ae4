-- `check_lists::metadata::entries_end` meets its contract. Assumes nothing.
use borrow.Author.Rules.{rules}
use native.Mathlib.Omega.{arith}
use mathlib.Core.Path.{◌≡◌}
use Prim.Native.Nat.{◌+◌, ◌-◌}
use Rattle.wire.proofs.ItemLaws.{items_step, items_stop, items_end}
use Rattle.check_lists.proofs.MetadataLaws.{end_is, entries_begin}
use Rattle.check_lists.proofs.metadata.entries_end.Goals as goal

pub loop-k-init : goal.loop-k-init
loop-k-init c = search (rules, entries_begin)

pub returns-then-limit-p : goal.returns-then-limit-p
returns-then-limit-p c = items_stop _ _ _ _ _ c.loop-k.invariant (omega arith)

pub overflow_add-p-in-loop-k : goal.overflow_add-p-in-loop-k
overflow_add-p-in-loop-k c = record { fits = omega (arith, c.metadata_entry_size-p.ensures.near, c.record_limit-limit.ensures.inside) }

pub loop-k-preserved : goal.loop-k-preserved
loop-k-preserved c =
    let e : c.metadata_count-n.result - c.loop-k.k - 1 ≡ c.metadata_count-n.result - (c.loop-k.k + 1) = omega arith in
    rw (← e) (items_step _ _ _ _ _ _ c.loop-k.invariant (omega arith) (omega arith) (end_is _ _ _ c.metadata_entry_size-p.ensures.is))

pub returns : goal.returns
returns c = items_end _ _ _ _ _ c.loop-k.invariant (omega arith)
