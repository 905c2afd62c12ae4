-- `header::entries::entry_at` meets its contract. Assumes nothing.
use Rattle.header.proofs.EntryLaws.{entry_whole_lem}
use borrow.Author.Rules.{rules}
use Rattle.header.proofs.entries.entry_at.Goals as goal

pub returns : goal.returns
returns c = search (rules, entry_whole_lem)
