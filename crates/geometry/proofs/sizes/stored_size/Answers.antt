-- `geometry::sizes::stored_size` meets its contract. Assumes nothing.
use Rattle.geometry.specs.Sizes.{stored_size}
use mathlib.Core.Path.{refl}
use Rattle.geometry.proofs.sizes.stored_size.Goals as goal

pub returns : goal.returns
unfolding stored_size
returns c = refl
