-- `page_compare::count::halt_piece` meets its contract. Assumes nothing.
use Prim.Native.Nat.{◌-◌, ◌≤◌}
use Rattle.page_compare.specs.Counting.{NoHalt}
use Rattle.page_compare.proofs.count.halt_piece.Given as goal

abbrev pub invariant-loop-e : goal.invariant-loop-e
invariant-loop-e l = (l.e ≤ l.q.elements) × NoHalt l.first l.second l.q l.a l.p.top l.p.left l.e

abbrev pub decreases-loop-e : goal.decreases-loop-e
decreases-loop-e l = l.q.elements - l.e
