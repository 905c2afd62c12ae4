-- `page_compare::place::list_all` meets its contract. Assumes nothing.
use Prim.Native.Nat.{◌-◌, ◌/◌, ◌≤◌}
use mathlib.Core.Path.{◌≡◌}
use lib.ListN.{length}
use Rattle.row_lists.specs.Entries.{entry_size, count_in}
use Rattle.row_lists.specs.Placing.{Placed, cap_of, numbers_at, reached}
use Rattle.page_compare.specs.Sides.{area_differ, area_tiling}
use Rattle.page_compare.proofs.place.list_all.Given as goal

abbrev pub invariant-loop-top : goal.invariant-loop-top
invariant-loop-top l = (((length l.memory ≡ length l.initial.memory) × ((length l.marks ≡ length l.initial.marks) × ((length l.counts ≡ length l.initial.counts) × (length l.list ≡ length l.initial.list)))) × ((length l.ends ≡ 4096) × (l.room ≡ length l.initial.list / entry_size))) × ((l.top ≤ l.a.rows) × ((l.done ≡ count_in (area_differ l.first l.second l.q l.a) l.q.elements 0 l.top 0 l.a.columns) × Placed (numbers_at (area_tiling l.first l.a) (area_differ l.first l.second l.q l.a) l.q.elements) l.a.rows l.a.columns (cap_of l.initial.list) (reached l.a.columns l.top l.top 0) l.initial.list l.list))

abbrev pub decreases-loop-top : goal.decreases-loop-top
decreases-loop-top l = l.a.rows - l.top
