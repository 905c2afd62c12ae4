-- `plans::packing::pack` meets its contract. Assumes nothing.
use Prim.Native.Nat.{◌-◌}
use mathlib.Core.Path.{◌≡◌}
use lib.ListN.{length}
use Rattle.plans.proofs.PackLaws.{TakingIn}
use Rattle.plans.proofs.packing.pack.Given as goal

abbrev pub invariant-loop-k : goal.invariant-loop-k
invariant-loop-k l = (length l.plan ≡ length l.initial.plan) × TakingIn l.s l.initial.plan l.plan l.at l.k

abbrev pub decreases-loop-k : goal.decreases-loop-k
decreases-loop-k l = length l.initial.plan - l.k
