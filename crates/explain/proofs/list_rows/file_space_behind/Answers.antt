-- `explain::list_rows::file_space_behind` meets its contract. Assumes nothing.
use borrow.Author.Rules.{rules}
use Rattle.explain.proofs.JoinLaws.{free_framed}
use Rattle.explain.proofs.list_rows.file_space_behind.Goals as goal

pub free_list-requires : goal.free_list-requires
free_list-requires c = search (rules, free_framed)
