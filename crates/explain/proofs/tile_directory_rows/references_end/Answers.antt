-- `explain::tile_directory_rows::references_end` meets its contract. Assumes nothing.
use borrow.Author.Rules.{rules}
use Rattle.explain.proofs.DirectoryLaws.{references_end_told}
use Rattle.explain.proofs.tile_directory_rows.references_end.Goals as goal

pub returns : goal.returns
returns c = search (rules, references_end_told)
