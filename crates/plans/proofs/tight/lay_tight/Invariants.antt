-- `plans::tight::lay_tight` meets its contract. Assumes nothing.
use Prim.Native.Nat.{◌-◌}
use mathlib.Core.Path.{◌≡◌}
use lib.ListN.{length}
use Rattle.plans.proofs.TightLaws.{Sliding}
use Rattle.plans.proofs.tight.lay_tight.Given as goal

abbrev pub invariant-loop-x : goal.invariant-loop-x
invariant-loop-x l = (length l.plan ≡ length l.initial.plan) × Sliding l.s l.initial.plan l.plan l.at l.e l.k

abbrev pub decreases-loop-x : goal.decreases-loop-x
decreases-loop-x l = length l.s - l.at
