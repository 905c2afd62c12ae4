-- `page_compare::count::plain_piece` meets its contract. Assumes nothing.
use Prim.Native.Nat.{◌-◌, ◌≤◌}
use Rattle.page_compare.specs.Counting.{Level}
use Rattle.page_compare.specs.Sides.{area_differ}
use Rattle.page_compare.proofs.count.plain_piece.Given as goal

abbrev pub invariant-loop-e : goal.invariant-loop-e
invariant-loop-e l = (l.e ≤ l.q.elements) × Level (area_differ l.first l.second l.q l.a) l.p.top l.p.bottom l.p.left l.p.right l.e l.n

abbrev pub decreases-loop-e : goal.decreases-loop-e
decreases-loop-e l = l.q.elements - l.e
