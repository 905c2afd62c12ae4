-- `store::reads::held_by` meets its contract. Assumes nothing.
use Rattle.store.proofs.OpenedLaws.{held_refused, held_accepted}
use Rattle.store.proofs.reads.held_by.Goals as goal

pub returns-in-Err : goal.returns-in-Err
returns-in-Err c = held_refused _ _ c.check.ensures _ c.in-Err.is

pub returns-in-Ok : goal.returns-in-Ok
returns-in-Ok c = held_accepted _ _ c.check.ensures _ _ c.in-Ok.is c.header_end.ensures c.tile_directory_reference.ensures
