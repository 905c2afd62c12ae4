-- `writable::is_open` meets its contract. Assumes nothing.
use borrow.Author.Rules.{rules}
use Rattle.writable.specs.Writable.{open_for_writing}
use Rattle.writable.proofs.TestLaws.{asked}
use Rattle.writable.proofs.is_open.Goals as goal

pub returns-then-directories_open : goal.returns-then-directories_open
unfolding open_for_writing
returns-then-directories_open c = search (rules, asked)

pub returns-else-directories_open : goal.returns-else-directories_open
unfolding open_for_writing
returns-else-directories_open c = search (rules, asked)

pub returns-else-records_right : goal.returns-else-records_right
unfolding open_for_writing
returns-else-records_right c = search (rules, asked)

pub returns-else-is_opened : goal.returns-else-is_opened
unfolding open_for_writing
returns-else-is_opened c = search (rules, asked)
