-- `header::entries::entry_end` meets its contract. Assumes nothing.
use Rattle.header.proofs.EntryLaws.{entry_is}
use borrow.Author.Rules.{rules}
use Rattle.header.proofs.entries.entry_end.Goals as goal

pub returns-clause-is : goal.returns-clause-is
returns-clause-is c = search (rules, entry_is)
