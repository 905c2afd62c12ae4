-- `bodies::tile_directory::reference_from` meets its contract. Assumes nothing.
use Rattle.bodies.proofs.DirectoryLaws.{reference_is}
use borrow.Author.Rules.{rules}
use Rattle.bodies.proofs.tile_directory.reference_from.Goals as goal

pub returns : goal.returns
returns c = search (rules, reference_is)
