-- `explain::list_rows::file_space_row` meets its contract. Assumes nothing.
use borrow.Author.Rules.{rules}
use Rattle.explain.proofs.JoinLaws.{free_refers}
use Rattle.explain.proofs.list_rows.file_space_row.Goals as goal

pub file_space_behind-requires : goal.file_space_behind-requires
file_space_behind-requires c = search (rules, free_refers)
