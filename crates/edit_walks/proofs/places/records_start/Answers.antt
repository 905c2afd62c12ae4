-- `edit_walks::places::records_start` meets its contract. Assumes nothing.
use Rattle.edit_walks.proofs.SpotLaws.{start_is}
use Rattle.edit_walks.proofs.places.records_start.Goals as goal

pub returns-clause-is : goal.returns-clause-is
returns-clause-is c = start_is _ _ c.u32_at.ensures
