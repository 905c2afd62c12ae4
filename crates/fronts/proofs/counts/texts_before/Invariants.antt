-- `fronts::counts::texts_before` meets its contract. Assumes nothing.
use Prim.Native.Nat.{◌-◌, ◌≤◌}
use mathlib.Core.Path.{◌≡◌}
use Rattle.wire.specs.Tests.{sum_below}
use Rattle.fronts.specs.Given.{texts_length}
use Rattle.fronts.proofs.counts.texts_before.Given as goal

abbrev pub invariant-loop-e : goal.invariant-loop-e
invariant-loop-e l = (l.e ≤ l.n) × (l.sum ≡ sum_below l.e (texts_length l.elements))

abbrev pub decreases-loop-e : goal.decreases-loop-e
decreases-loop-e l = l.n - l.e
