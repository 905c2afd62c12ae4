-- `explain::listed::entries_in` meets its contract. Assumes nothing.
use Rattle.check_lists.proofs.ListLaws.{count_free, count_metadata}
use borrow.Author.Rules.{rules}
use Rattle.explain.proofs.listed.entries_in.Goals as goal

pub returns-in-FreeSpace : goal.returns-in-FreeSpace
returns-in-FreeSpace c = search (rules, count_free)

pub returns-in-Metadata : goal.returns-in-Metadata
returns-in-Metadata c = search (rules, count_metadata)
