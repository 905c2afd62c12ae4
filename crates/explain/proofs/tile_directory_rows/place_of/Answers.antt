-- `explain::tile_directory_rows::place_of` meets its contract. Assumes nothing.
use borrow.Author.Rules.{rules}
use Rattle.explain.proofs.DirectoryLaws.{references}
use Rattle.explain.proofs.tile_directory_rows.place_of.Goals as goal

pub returns-then-from-n : goal.returns-then-from-n
returns-then-from-n c = search (rules, references)

pub returns-then-standard_references-eq1 : goal.returns-then-standard_references-eq1
returns-then-standard_references-eq1 c = search (rules, references)

pub returns-then-from-n-2 : goal.returns-then-from-n-2
returns-then-from-n-2 c = search (rules, references)

pub returns : goal.returns
returns c = search (rules, references)
