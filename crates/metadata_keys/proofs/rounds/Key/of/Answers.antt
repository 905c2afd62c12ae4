-- `metadata_keys::rounds::Key::of` meets its contract. Assumes nothing.
use Rattle.metadata_keys.specs.inner.Keys.{key_of}
use Rattle.metadata_keys.proofs.rounds.Key.of.Goals as goal

pub returns : goal.returns
unfolding key_of
returns c = cc
