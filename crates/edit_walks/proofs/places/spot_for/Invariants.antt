-- `edit_walks::places::spot_for` meets its contract. Assumes nothing.
use Prim.Native.Nat.{◌-◌}
use lib.ListN.{length}
use Rattle.edit_walks.proofs.SpotLaws.{Spotting}
use Rattle.edit_walks.proofs.places.spot_for.Given as goal

abbrev pub invariant-loop-kind : goal.invariant-loop-kind
invariant-loop-kind l = Spotting l.s l.tile l.n l.from l.c.at

abbrev pub decreases-loop-kind : goal.decreases-loop-kind
decreases-loop-kind l = length l.s - l.c.at
