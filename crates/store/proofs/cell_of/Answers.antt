-- `store::cell_of` meets its contract. Assumes nothing.
use Rattle.store.proofs.OpenedLaws.{plain_both}
use Rattle.store.proofs.cell_of.Goals as goal

pub returns-then-walk : goal.returns-then-walk
returns-then-walk c = let all_of = plain_both _ _ _ _ _ _ _ c.read_by_walk.ensures.meaning in record { route = all_of.0; meaning = all_of.1 }

pub returns : goal.returns
returns c = let all_of = plain_both _ _ _ _ _ _ _ c.read_by_directory.ensures.meaning in record { route = all_of.0; meaning = all_of.1 }
