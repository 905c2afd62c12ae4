-- `explain::over::over` meets its contract. Assumes nothing.
use Rattle.std.proofs.Common.{length, ◌-◌}
use Rattle.explain.proofs.OverLaws.{Told}
use Rattle.explain.proofs.over.over.Given as goal

abbrev pub invariant-loop-own : goal.invariant-loop-own
invariant-loop-own g l = Told l.s (goal.F-post g l.ask) l.kind l.k l.c.at

abbrev pub decreases-loop-own : goal.decreases-loop-own
decreases-loop-own g l = length l.s - l.c.at
