-- `check_lists::file_space::free_fits` meets its contract. Assumes nothing.
use Rattle.check_lists.proofs.SpaceLaws.{fits_none, fits_empty, fits_negative, fits_is}
use borrow.Author.Rules.{rules}
use Rattle.check_lists.proofs.file_space.free_fits.Goals as goal

pub returns-then-file_space_reference-eq0 : goal.returns-then-file_space_reference-eq0
returns-then-file_space_reference-eq0 c = search (rules, fits_none)

pub returns-then-count-lt1 : goal.returns-then-count-lt1
returns-then-count-lt1 c = search (rules, fits_empty)

pub returns-then-count-gt-LARGEST_INTEGER : goal.returns-then-count-gt-LARGEST_INTEGER
returns-then-count-gt-LARGEST_INTEGER c = search (rules, fits_negative)

pub returns : goal.returns
returns c = search (rules, fits_is)
