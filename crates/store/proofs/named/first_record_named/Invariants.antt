-- `store::named::first_record_named` meets its contract. Assumes nothing.
use Prim.Native.Nat.{◌-◌}
use lib.ListN.{length}
use Rattle.record.proofs.SeekLaws.{Seeking}
use Rattle.store.specs.Named.{is_named}
use Rattle.store.proofs.named.first_record_named.Given as goal

abbrev pub invariant-loop-kind : goal.invariant-loop-kind
invariant-loop-kind l = Seeking (is_named l.s l.name) l.s l.at l.c.at

abbrev pub decreases-loop-kind : goal.decreases-loop-kind
decreases-loop-kind l = length l.s - l.c.at
