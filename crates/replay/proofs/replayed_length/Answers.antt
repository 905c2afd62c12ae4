-- `replay::replayed_length` meets its contract. Assumes nothing.
use mathlib.Core.Path.{refl}
use Rattle.replay.proofs.replayed_length.Goals as goal

pub returns-in-Stopped : goal.returns-in-Stopped
returns-in-Stopped c = rw c.in-Stopped.is refl

pub returns-in-Refused : goal.returns-in-Refused
returns-in-Refused c = rw c.in-Refused.is c.refusal_place.ensures
