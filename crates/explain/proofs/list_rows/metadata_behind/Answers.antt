-- `explain::list_rows::metadata_behind` meets its contract. Assumes nothing.
use borrow.Author.Rules.{rules}
use Rattle.explain.proofs.JoinLaws.{metadata_framed}
use Rattle.explain.proofs.list_rows.metadata_behind.Goals as goal

pub metadata_last-requires : goal.metadata_last-requires
metadata_last-requires c = search (rules, metadata_framed)
