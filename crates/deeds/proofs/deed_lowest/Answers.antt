-- `deeds::deed_lowest` meets its contract. Assumes nothing.

use Rattle.deeds.proofs.deed_lowest.Goals as goal

pub returns-in-Ok : goal.returns-in-Ok
returns-in-Ok c = rw c.in-Ok.is
