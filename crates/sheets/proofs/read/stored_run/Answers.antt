-- `sheets::read::stored_run` meets its contract. Assumes nothing.
use Rattle.answer.proofs.VerdictLaws.{arm_of}
use Rattle.sheets.proofs.ReadLaws.{stored_here}
use Rattle.sheets.proofs.read.stored_run.Goals as goal

pub returns-in-Stored : goal.returns-in-Stored
returns-in-Stored c = stored_here _ _ _ _ _ _ _ (arm_of c.in-Ok.is c.in-Stored.is) c.if-kind-ne3.false c.run_from.ensures
