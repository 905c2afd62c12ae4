-- `replay::replayed_number` meets its contract. Assumes nothing.

use Rattle.replay.proofs.replayed_number.Goals as goal

pub returns-in-Stopped : goal.returns-in-Stopped
returns-in-Stopped c = rw c.in-Stopped.is c.refusal_number.ensures
