-- `metadata_keys::rounds::find_unordered` meets its contract. Assumes nothing.
use Rattle.metadata_keys.proofs.RoundLaws.{Ascending}
use Rattle.metadata_keys.proofs.rounds.find_unordered.Given as goal

abbrev pub invariant-loop-i : goal.invariant-loop-i
invariant-loop-i l = Ascending l.s l.a l.i
