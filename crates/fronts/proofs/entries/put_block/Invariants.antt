-- `fronts::entries::put_block` meets its contract. Assumes nothing.
use Prim.Native.Nat.{◌-◌, ◌≤◌}
use Rattle.fronts.proofs.WriteLaws.{Blocked}
use Rattle.fronts.proofs.entries.put_block.Given as goal

abbrev pub invariant-loop-i : goal.invariant-loop-i
invariant-loop-i l = (l.i ≤ l.n) × Blocked l.initial.out l.at l.kind l.range l.first l.out l.i

abbrev pub decreases-loop-i : goal.decreases-loop-i
decreases-loop-i l = l.n - l.i
