-- `explain::given::mark_tiles` meets its contract. Assumes nothing.
use Prim.Native.Nat.{◌-◌}
use mathlib.Core.Path.{◌≡◌}
use lib.ListN.{length}
use Rattle.explain.proofs.MarkLaws.{Marking}
use Rattle.explain.proofs.given.mark_tiles.Given as goal

abbrev pub invariant-loop-kind : goal.invariant-loop-kind
invariant-loop-kind l = (length l.marks ≡ length l.initial.marks) × Marking l.s l.marks l.c.at

abbrev pub decreases-loop-kind : goal.decreases-loop-kind
decreases-loop-kind l = length l.s - l.c.at
