-- `cells::lookups::look_up_room` meets its contract. Assumes nothing.
use Rattle.cells.proofs.HeldLaws.{said_kept}
use Rattle.cells.proofs.lookups.look_up_room.Goals as goal

pub returns-clause-is : goal.returns-clause-is
returns-clause-is c = c.look_up_keeping.ensures.is

pub returns-clause-holds : goal.returns-clause-holds
returns-clause-holds c = c.look_up_keeping.ensures.holds (said_kept _)
