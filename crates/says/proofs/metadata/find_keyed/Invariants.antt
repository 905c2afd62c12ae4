-- `says::metadata::find_keyed` meets its contract. Assumes nothing.
use Prim.Native.Nat.{◌-◌}
use lib.ListN.{length}
use Rattle.says.proofs.MetadataLaws.{Keyed}
use Rattle.says.proofs.metadata.find_keyed.Given as goal

abbrev pub invariant-loop-kind : goal.invariant-loop-kind
invariant-loop-kind l = Keyed l.s l.name l.id l.c.at l.k

abbrev pub decreases-loop-kind : goal.decreases-loop-kind
decreases-loop-kind l = length l.s - l.c.at
