-- `bodies::tile_directory::reference_size` meets its contract. Assumes nothing.
use Rattle.bodies.proofs.DirectoryLaws.{size_standard, size_compact}
use borrow.Author.Rules.{rules}
use Rattle.bodies.proofs.tile_directory.reference_size.Goals as goal

pub returns-then-standard_references-eq1 : goal.returns-then-standard_references-eq1
returns-then-standard_references-eq1 c = search (rules, size_standard)

pub returns : goal.returns
returns c = search (rules, size_compact)
