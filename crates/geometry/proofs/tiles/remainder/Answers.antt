-- `geometry::tiles::remainder` meets its contract. Assumes nothing.
use mathlib.Core.Path.{refl}
use Rattle.geometry.proofs.TileLaws.{remainder_zero, remainder_small}
use Rattle.geometry.proofs.tiles.remainder.Goals as goal

pub returns-then-b-eq0-clause-is : goal.returns-then-b-eq0-clause-is
returns-then-b-eq0-clause-is c = remainder_zero _ _ c.if-b-eq0.true

pub returns-clause-is : goal.returns-clause-is
returns-clause-is c = refl

pub returns-clause-small : goal.returns-clause-small
returns-clause-small c = remainder_small _ _
