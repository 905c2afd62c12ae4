-- `explain::listed::is_entry_of` meets its contract. Assumes nothing.
use Rattle.check_lists.proofs.ListLaws.{of_free, of_metadata}
use borrow.Author.Rules.{rules}
use Rattle.explain.proofs.listed.is_entry_of.Goals as goal

pub returns-in-FreeSpace : goal.returns-in-FreeSpace
returns-in-FreeSpace c = search (rules, of_free)

pub returns-in-Metadata : goal.returns-in-Metadata
returns-in-Metadata c = search (rules, of_metadata)
