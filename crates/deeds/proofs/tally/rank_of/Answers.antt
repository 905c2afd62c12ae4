-- `deeds::tally::rank_of` meets its contract. Assumes nothing.
use mathlib.Core.Path.{refl}
use native.Mathlib.Omega.{arith}
use Rattle.deeds.specs.Tallies.{rank_of}
use Rattle.deeds.proofs.tally.rank_of.Goals as goal

pub returns-clause-is : goal.returns-clause-is
unfolding rank_of
returns-clause-is c = refl

pub returns-clause-small : goal.returns-clause-small
unfolding rank_of
returns-clause-small c = omega arith
