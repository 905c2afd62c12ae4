-- `page_compare::count::count_rows` meets its contract. Assumes nothing.
use Prim.Native.Nat.{◌-◌, ◌≤◌}
use mathlib.Core.Path.{◌≡◌}
use lib.ListN.{length}
use Rattle.store.specs.Face.{tile_columns}
use Rattle.page_compare.specs.Sides.{area_differ}
use Rattle.page_compare.specs.Counting.{Added}
use Rattle.page_compare.proofs.count.count_rows.Given as goal

abbrev pub invariant-loop-r : goal.invariant-loop-r
invariant-loop-r l = (length l.marks ≡ length l.initial.marks) × (((l.p.top ≤ l.r) × (l.r ≤ l.p.bottom)) × ((l.across ≡ tile_columns l.first) × Added (area_differ l.first l.second l.q l.a) l.q.elements l.p.top l.r l.p.left l.p.right 0 l.initial.counts l.counts))

abbrev pub decreases-loop-r : goal.decreases-loop-r
decreases-loop-r l = l.p.bottom - l.r
