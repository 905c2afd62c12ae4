-- `explain::whole::directory_row` meets its contract. Assumes nothing.
use borrow.Author.Rules.{rules}
use Rattle.explain.proofs.JoinLaws.{directory_kept}
use Rattle.explain.proofs.whole.directory_row.Goals as goal

pub returns-then-directories_right : goal.returns-then-directories_right
returns-then-directories_right c = search (rules, directory_kept)
