-- `explain::list_rows::metadata_directory_row` meets its contract. Assumes nothing.
use borrow.Author.Rules.{rules}
use Rattle.explain.proofs.JoinLaws.{metadata_refers}
use Rattle.explain.proofs.list_rows.metadata_directory_row.Goals as goal

pub metadata_behind-requires : goal.metadata_behind-requires
metadata_behind-requires c = search (rules, metadata_refers)
