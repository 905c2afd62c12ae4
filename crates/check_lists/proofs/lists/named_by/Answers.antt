-- `check_lists::lists::named_by` meets its contract. Assumes nothing.
use Rattle.check_lists.proofs.WindowLaws.{named_free, named_metadata}
use borrow.Author.Rules.{rules}
use Rattle.check_lists.proofs.lists.named_by.Goals as goal

pub returns-in-FreeSpace : goal.returns-in-FreeSpace
returns-in-FreeSpace c = search (rules, named_free)

pub returns-in-Metadata : goal.returns-in-Metadata
returns-in-Metadata c = search (rules, named_metadata)
