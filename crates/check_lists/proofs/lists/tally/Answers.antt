-- `check_lists::lists::tally` meets its contract. Assumes nothing.
use borrow.Author.Rules.{rules}
use native.Mathlib.Omega.{arith}
use Rattle.check_lists.proofs.WindowLaws.{tally_begin, tally_room, tally_more, tally_length, tally_all}
use Rattle.check_lists.proofs.lists.tally.Goals as goal

pub loop-k-init : goal.loop-k-init
loop-k-init c = search (rules, tally_begin)

pub overflow_add-p : goal.overflow_add-p
overflow_add-p c = record { fits = omega (arith, tally_room _ _ _ _ _ _ _ _ c.loop-k.invariant c.list_count-n.ensures c.requires (omega arith), c.entry_size-p.ensures.near) }

pub loop-k-preserved : goal.loop-k-preserved
loop-k-preserved c = tally_more _ _ _ _ _ _ _ _ c.loop-k.invariant c.list_count-n.ensures _ _ _ c.note.ensures c.slot_of-j.ensures c.entry_size-p.ensures.is c.requires (omega arith)

pub shape_of-counts : goal.shape_of-counts
shape_of-counts c = tally_length _ _ _ _ _ _ _ _ c.loop-k.invariant c.list_count-n.ensures

pub returns : goal.returns
returns c = tally_all _ _ _ _ _ _ _ _ c.loop-k.invariant c.list_count-n.ensures (omega arith)
