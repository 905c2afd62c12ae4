-- `bodies::tile_directory::reference_of` meets its contract. Assumes nothing.
use Rattle.bodies.proofs.DirectoryLaws.{reference_in_lem, reference_out}
use borrow.Author.Rules.{rules}
use Rattle.bodies.proofs.tile_directory.reference_of.Goals as goal

pub returns-then-in_rectangle : goal.returns-then-in_rectangle
returns-then-in_rectangle c = search (rules, reference_in_lem)

pub returns : goal.returns
returns c = search (rules, reference_out)
