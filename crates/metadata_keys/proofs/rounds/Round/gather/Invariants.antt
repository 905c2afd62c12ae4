-- `metadata_keys::rounds::Round::gather` meets its contract. Assumes nothing.
use Prim.Native.Nat.{◌-◌}
use lib.ListN.{length}
use Rattle.metadata_keys.proofs.RoundLaws.{Gathering}
use Rattle.metadata_keys.proofs.rounds.Round.gather.Given as goal

abbrev pub invariant-loop-kind : goal.invariant-loop-kind
invariant-loop-kind l = Gathering l.s l.self l.a l.n l.c.at

abbrev pub decreases-loop-kind : goal.decreases-loop-kind
decreases-loop-kind l = length l.s - l.c.at
