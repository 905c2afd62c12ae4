-- `page_compare::count::count_all` meets its contract. Assumes nothing.
use Prim.Native.Nat.{◌-◌, ◌≤◌}
use mathlib.Core.Path.{◌≡◌}
use lib.ListN.{length}
use Rattle.row_lists.specs.Entries.{count_in}
use Rattle.comparisons.specs.declared.Halt.TheVariants.{None}
use Rattle.page_compare.specs.Sides.{area_differ, area_halt_in}
use Rattle.page_compare.proofs.count.count_all.Given as goal

abbrev pub invariant-loop-top : goal.invariant-loop-top
invariant-loop-top l = (length l.memory ≡ length l.initial.memory) × ((length l.marks ≡ length l.initial.marks) × ((length l.counts ≡ length l.initial.counts) × ((l.top ≤ l.a.rows) × ((l.sum ≡ count_in (area_differ l.first l.second l.q l.a) l.q.elements 0 l.top 0 l.a.columns) × (area_halt_in l.first l.second l.q l.a 0 l.top 0 l.a.columns ≡ None)))))

abbrev pub decreases-loop-top : goal.decreases-loop-top
decreases-loop-top l = l.a.rows - l.top
