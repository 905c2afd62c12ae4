-- `fronts::counts::entries_length` meets its contract. Assumes nothing.
use Prim.Native.Nat.{◌-◌, ◌≤◌}
use mathlib.Core.Path.{◌≡◌}
use Rattle.wire.specs.Tests.{sum_below}
use Rattle.fronts.specs.Writing.{entry_counted}
use Rattle.fronts.proofs.counts.entries_length.Given as goal

abbrev pub invariant-loop-e : goal.invariant-loop-e
invariant-loop-e l = (l.e ≤ l.n) × (l.sum ≡ sum_below l.e (entry_counted l.elements))

abbrev pub decreases-loop-e : goal.decreases-loop-e
decreases-loop-e l = l.n - l.e
