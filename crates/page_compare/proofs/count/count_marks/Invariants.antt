-- `page_compare::count::count_marks` meets its contract. Assumes nothing.
use Prim.Native.Nat.{◌-◌, ◌≤◌}
use mathlib.Core.Path.{◌≡◌}
use Rattle.row_lists.specs.Entries.{count_in}
use Rattle.page_compare.specs.Sides.{marked}
use Rattle.page_compare.proofs.count.count_marks.Given as goal

abbrev pub invariant-loop-c : goal.invariant-loop-c
invariant-loop-c l = ((l.left ≤ l.c) × (l.c ≤ l.right)) × (l.n ≡ count_in (marked l.marks l.left) l.elements 0 1 l.left l.c)

abbrev pub decreases-loop-c : goal.decreases-loop-c
decreases-loop-c l = l.right - l.c
