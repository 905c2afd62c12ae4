-- `metadata_keys::rounds::Key::is_behind` meets its contract. Assumes nothing.
use Rattle.metadata_keys.specs.inner.Keys.{behind}
use Rattle.metadata_keys.proofs.rounds.Key.is_behind.Goals as goal

pub returns-in-None : goal.returns-in-None
unfolding behind
returns-in-None c = rw c.in-None.is

pub returns-in-Some : goal.returns-in-Some
unfolding behind
returns-in-Some c = rw c.in-Some.is (rw c.before-in-Some.ensures)
