-- `page_compare::marks::look_up_marks` meets its contract. Assumes nothing.
use Prim.Native.Nat.{◌+◌, ◌-◌, ◌≤◌}
use Rattle.blocks.specs.Tables.{Inside, Filled}
use Rattle.page_compare.specs.Sides.{mark_width, held_mark}
use Rattle.page_compare.proofs.marks.look_up_marks.Given as goal

abbrev pub invariant-loop-c : goal.invariant-loop-c
invariant-loop-c lv = (lv.c ≤ lv.n) × Filled mark_width (held_mark lv.first lv.second lv.q lv.a lv.x lv.y lv.m lv.l lv.r lv.left lv.e) (Inside 0 lv.c lv.e (lv.e + 1)) lv.initial.marks lv.marks

abbrev pub decreases-loop-c : goal.decreases-loop-c
decreases-loop-c l = l.n - l.c
