-- `writable::directory_full` meets its contract. Assumes nothing.
use borrow.Author.Rules.{rules}
use Rattle.writable.proofs.TestLaws.{rows_not, columns_not, full_is}
use Rattle.writable.proofs.directory_full.Goals as goal

pub returns-then-listed_rows-tiles_down : goal.returns-then-listed_rows-tiles_down
returns-then-listed_rows-tiles_down c = search (rules, rows_not)

pub returns-then-listed_columns-tiles_across : goal.returns-then-listed_columns-tiles_across
returns-then-listed_columns-tiles_across c = search (rules, columns_not)

pub returns : goal.returns
returns c = search (rules, full_is)
