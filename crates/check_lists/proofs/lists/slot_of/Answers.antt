-- `check_lists::lists::slot_of` meets its contract. Assumes nothing.
use Rattle.check_lists.proofs.WindowLaws.{slot_before, slot_past, slot_between, slot_other, slot_is}
use borrow.Author.Rules.{rules}
use Rattle.check_lists.proofs.lists.slot_of.Goals as goal

pub returns-then-x-base : goal.returns-then-x-base
returns-then-x-base c = search (rules, slot_before)

pub returns-then-d-ge-WINDOW_BYTES : goal.returns-then-d-ge-WINDOW_BYTES
returns-then-d-ge-WINDOW_BYTES c = search (rules, slot_past)

pub returns-then-d-ne0 : goal.returns-then-d-ne0
returns-then-d-ne0 c = search (rules, slot_between)

pub returns-then-entry_of : goal.returns-then-entry_of
returns-then-entry_of c = search (rules, slot_is)

pub returns : goal.returns
returns c = search (rules, slot_other)
