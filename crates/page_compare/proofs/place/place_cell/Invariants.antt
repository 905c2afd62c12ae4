-- `page_compare::place::place_cell` meets its contract. Assumes nothing.
use Prim.Native.Nat.{◌+◌, ◌-◌, ◌*◌, ◌/◌, ◌≤◌, min}
use mathlib.Core.Path.{◌≡◌}
use lib.ListN.{length}
use Rattle.wire.specs.Lists.{count_below}
use Rattle.row_lists.specs.Entries.{entry_size}
use Rattle.row_lists.specs.Placing.{Cut, cap_of, numbers_at}
use Rattle.page_compare.specs.Sides.{marked, row_tiling}
use Rattle.page_compare.proofs.place.place_cell.Given as goal

abbrev pub invariant-loop-e : goal.invariant-loop-e
invariant-loop-e l = (length l.list ≡ length l.initial.list) × ((l.e ≤ l.elements) × ((l.next ≡ min (length l.initial.list / entry_size) (l.k + count_below l.e (marked l.marks l.left l.r l.c))) × Cut (cap_of l.initial.list) (l.k * entry_size) (numbers_at (row_tiling l.tile l.start l.left) (marked l.marks l.left) l.e l.r l.c) l.initial.list l.list))

abbrev pub decreases-loop-e : goal.decreases-loop-e
decreases-loop-e l = l.elements - l.e
