-- `geometry::tiles::quotient` meets its contract. Assumes nothing.
use mathlib.Core.Path.{refl}
use Rattle.geometry.proofs.TileLaws.{quotient_zero, quotient_small}
use Rattle.geometry.proofs.tiles.quotient.Goals as goal

pub returns-then-b-eq0-clause-is : goal.returns-then-b-eq0-clause-is
returns-then-b-eq0-clause-is c = quotient_zero _ _ c.if-b-eq0.true

pub returns-clause-is : goal.returns-clause-is
returns-clause-is c = refl

pub returns-clause-small : goal.returns-clause-small
returns-clause-small c = quotient_small _ _
