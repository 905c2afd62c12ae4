-- `header::entries::next_entry` meets its contract. Assumes nothing.
use Rattle.header.proofs.EntryLaws.{next_past, next_in}
use borrow.Author.Rules.{rules}
use Rattle.header.proofs.entries.next_entry.Goals as goal

pub returns-then-header_limit-at : goal.returns-then-header_limit-at
returns-then-header_limit-at c = search (rules, next_past)

pub returns : goal.returns
returns c = search (rules, next_in)
