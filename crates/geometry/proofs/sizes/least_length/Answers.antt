-- `geometry::sizes::least_length` meets its contract. Assumes nothing.
use Rattle.geometry.specs.Sizes.{least_length}
use mathlib.Core.Path.{refl}
use Rattle.geometry.proofs.sizes.least_length.Goals as goal

pub returns : goal.returns
unfolding least_length
returns c = refl
