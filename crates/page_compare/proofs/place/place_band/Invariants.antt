-- `page_compare::place::place_band` meets its contract. Assumes nothing.
use Prim.Native.Nat.{◌/◌, ◌≤◌}
use mathlib.Core.Path.{◌≡◌}
use lib.ListN.{length}
use Rattle.blocks.specs.Walks.{walk_left}
use Rattle.store.specs.Face.{Walks}
use Rattle.row_lists.specs.Entries.{entry_size}
use Rattle.row_lists.specs.Placing.{BandUpto}
use Rattle.page_compare.specs.Sides.{area_differ, area_tiling}
use Rattle.page_compare.proofs.place.place_band.Given as goal

abbrev pub invariant-loop-p : goal.invariant-loop-p
invariant-loop-p l = ((length l.memory ≡ length l.initial.memory) × ((length l.marks ≡ length l.initial.marks) × ((length l.next ≡ length l.initial.next) × (length l.list ≡ length l.initial.list)))) × ((l.cells ≤ 16777216) × (Walks l.first l.a l.top l.p × BandUpto (area_tiling l.first l.a) (area_differ l.first l.second l.q l.a) l.q.elements l.a.columns (length l.initial.list / entry_size) l.top l.bottom l.p.top l.p.bottom l.p.left l.initial.list l.list l.next))

abbrev pub decreases-loop-p : goal.decreases-loop-p
decreases-loop-p l = walk_left l.a.rows l.a.columns l.p.top l.p.left
