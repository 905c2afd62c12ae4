-- `page_compare::marks::tell_marks` meets its contract. Assumes nothing.
use Prim.Native.Nat.{◌+◌, ◌-◌, ◌≤◌}
use Rattle.blocks.specs.Tables.{Inside, Filled}
use Rattle.page_compare.specs.Sides.{mark_width, numbered_mark}
use Rattle.page_compare.proofs.marks.tell_marks.Given as goal

abbrev pub invariant-loop-c : goal.invariant-loop-c
invariant-loop-c lv = (lv.c ≤ lv.n) × Filled mark_width (numbered_mark lv.first lv.second lv.x lv.y lv.m lv.l lv.tile lv.start) (Inside 0 lv.c lv.e (lv.e + 1)) lv.initial.marks lv.marks

abbrev pub decreases-loop-c : goal.decreases-loop-c
decreases-loop-c l = l.n - l.c
