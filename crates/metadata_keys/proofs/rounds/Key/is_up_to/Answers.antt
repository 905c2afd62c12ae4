-- `metadata_keys::rounds::Key::is_up_to` meets its contract. Assumes nothing.
use Rattle.metadata_keys.specs.inner.Keys.{up_to}
use Rattle.metadata_keys.proofs.rounds.Key.is_up_to.Goals as goal

pub returns-in-None : goal.returns-in-None
unfolding up_to
returns-in-None c = rw c.in-None.is

pub returns-in-Some : goal.returns-in-Some
unfolding up_to
returns-in-Some c = rw c.in-Some.is (rw c.before-in-Some.ensures)
