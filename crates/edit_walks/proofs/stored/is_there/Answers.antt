-- `edit_walks::stored::is_there` meets its contract. Assumes nothing.
use Rattle.edit_walks.proofs.StoredLaws.{there_yes, there_no}
use Rattle.edit_walks.proofs.stored.is_there.Goals as goal

pub returns-in-Some : goal.returns-in-Some
returns-in-Some c = there_yes _ _ c.tile_referred.ensures _ c.in-Some.is

pub returns : goal.returns
returns c = there_no _ _ c.tile_referred.ensures c.in_default.is
