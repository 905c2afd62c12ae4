-- `fronts::entries::put_entries` meets its contract. Assumes nothing.
use Prim.Native.Nat.{◌-◌, ◌≤◌}
use Rattle.fronts.proofs.LineLaws.{Lined}
use Rattle.fronts.proofs.entries.put_entries.Given as goal

abbrev pub invariant-loop-e : goal.invariant-loop-e
invariant-loop-e l = (l.e ≤ l.n) × Lined l.initial.out l.at l.elements l.texts l.out l.p l.from l.e

abbrev pub decreases-loop-e : goal.decreases-loop-e
decreases-loop-e l = l.n - l.e
