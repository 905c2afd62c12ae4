-- `sheets::put::put_run` meets its contract. Assumes nothing.
use Rattle.sheets.proofs.ReadLaws.{run_row}
use native.Mathlib.Omega.{arith}
use Rattle.sheets.proofs.put.put_run.Goals as goal

pub put_stored-requires-clause-room : goal.put_stored-requires-clause-room
put_stored-requires-clause-room c = c.requires.room

pub put_stored-requires-clause-inside : goal.put_stored-requires-clause-inside
put_stored-requires-clause-inside c = c.requires.inside

pub put_stored-requires-clause-stored : goal.put_stored-requires-clause-stored
put_stored-requires-clause-stored c = run_row _ _ _ _ _ _ _ _ _ _ _ c.requires.reads _ (c.stored_run-from.ensures (omega arith))
