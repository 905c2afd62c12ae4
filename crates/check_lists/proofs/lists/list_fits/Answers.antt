-- `check_lists::lists::list_fits` meets its contract. Assumes nothing.
use Rattle.check_lists.proofs.ListLaws.{fits_free, fits_metadata}
use borrow.Author.Rules.{rules}
use Rattle.check_lists.proofs.lists.list_fits.Goals as goal

pub returns-in-FreeSpace : goal.returns-in-FreeSpace
returns-in-FreeSpace c = search (rules, fits_free)

pub returns-in-Metadata : goal.returns-in-Metadata
returns-in-Metadata c = search (rules, fits_metadata)
