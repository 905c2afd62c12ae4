-- `gvrs_c::deed::deed_report` meets its contract. Assumes nothing.

use Rattle.gvrs_c.proofs.deed.deed_report.Goals as goal

pub returns-in-Ok : goal.returns-in-Ok
returns-in-Ok c = rw c.in-Ok.is
