-- `page_compare::place::place_row` meets its contract. Assumes nothing.
use Prim.Native.Nat.{◌+◌, ◌-◌, ◌*◌, ◌/◌, ◌≤◌, min}
use mathlib.Core.Path.{◌≡◌}
use lib.ListN.{length}
use Rattle.row_lists.specs.Entries.{entry_size, count_in}
use Rattle.row_lists.specs.Placing.{Cut, cap_of, numbers_at, stretch}
use Rattle.page_compare.specs.Sides.{marked, row_tiling}
use Rattle.page_compare.proofs.place.place_row.Given as goal

abbrev pub invariant-loop-c : goal.invariant-loop-c
invariant-loop-c l = (length l.list ≡ length l.initial.list) × (((l.left ≤ l.c) × (l.c ≤ l.right)) × ((l.next ≡ min (length l.initial.list / entry_size) (l.k + count_in (marked l.marks l.left) l.elements l.r (l.r + 1) l.left l.c)) × Cut (cap_of l.initial.list) (l.k * entry_size) (stretch (numbers_at (row_tiling l.tile l.start l.left) (marked l.marks l.left) l.elements) l.r l.left l.c) l.initial.list l.list))

abbrev pub decreases-loop-c : goal.decreases-loop-c
decreases-loop-c l = l.right - l.c
