-- `page_compare::marks::mark_row` meets its contract. Assumes nothing.
use Prim.Native.Nat.{◌-◌, ◌≤◌}
use Rattle.blocks.specs.Tables.{Inside, Filled}
use Rattle.page_compare.specs.Sides.{mark_width, row_mark}
use Rattle.page_compare.proofs.marks.mark_row.Given as goal

abbrev pub invariant-loop-e : goal.invariant-loop-e
invariant-loop-e l = (l.e ≤ l.q.elements) × Filled mark_width (row_mark l.first l.second l.q l.a l.r l.p.left) (Inside 0 (l.p.right - l.p.left) 0 l.e) l.initial.marks l.marks

abbrev pub decreases-loop-e : goal.decreases-loop-e
decreases-loop-e l = l.q.elements - l.e
