-- `cells::reads::cell_of_accepted` meets its contract. Assumes nothing.
use Rattle.cells.proofs.ReadLaws.{looked_directory, directory_answer}
use Rattle.cells.proofs.reads.cell_of_accepted.Goals as goal

pub returns-clause-looked : goal.returns-clause-looked
returns-clause-looked c = looked_directory _ _ _ _ _ _ _ c.look_up.ensures c.tile_directory_at.ensures

pub returns-clause-accepted : goal.returns-clause-accepted
returns-clause-accepted c = directory_answer _ _ _ _ _ _ _ c.look_up.ensures c.tile_directory_at.ensures
