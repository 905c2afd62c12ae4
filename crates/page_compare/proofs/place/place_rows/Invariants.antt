-- `page_compare::place::place_rows` meets its contract. Assumes nothing.
use Prim.Native.Nat.{◌-◌, ◌/◌, ◌≤◌}
use mathlib.Core.Path.{◌≡◌}
use lib.ListN.{length}
use Rattle.store.specs.Face.{tile_columns}
use Rattle.row_lists.specs.Entries.{entry_size}
use Rattle.row_lists.specs.Placing.{Nexts, PiecePlaced}
use Rattle.page_compare.specs.Sides.{area_differ, area_tiling}
use Rattle.page_compare.proofs.place.place_rows.Given as goal

abbrev pub invariant-loop-r : goal.invariant-loop-r
invariant-loop-r l = ((length l.marks ≡ length l.initial.marks) × ((length l.next ≡ length l.initial.next) × (length l.list ≡ length l.initial.list))) × ((l.across ≡ tile_columns l.first) × (((l.p.top ≤ l.r) × (l.r ≤ l.p.bottom)) × (Nexts (area_differ l.first l.second l.q l.a) l.q.elements l.a.columns (length l.initial.list / entry_size) l.p.top l.p.bottom l.r l.p.left l.p.right l.next × PiecePlaced (area_tiling l.first l.a) (area_differ l.first l.second l.q l.a) l.q.elements l.a.columns l.p.top l.p.bottom l.r l.p.left l.p.right l.initial.list l.list)))

abbrev pub decreases-loop-r : goal.decreases-loop-r
decreases-loop-r l = l.p.bottom - l.r
