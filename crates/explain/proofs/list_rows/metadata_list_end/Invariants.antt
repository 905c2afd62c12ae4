-- `explain::list_rows::metadata_list_end` meets its contract. Assumes nothing.
use Prim.Native.Nat.{◌+◌, ◌≤◌}
use mathlib.Core.Path.{◌≡◌}
use lib.ListN.{length}
use Rattle.wire.specs.Items.{advance}
use Rattle.header.specs.Element.{longest_string}
use Rattle.bodies.specs.ListDirectories.{metadata_count, metadata_entry_at, metadata_entry_end}
use Rattle.explain.proofs.list_rows.metadata_list_end.Given as goal

abbrev pub invariant-loop-left : goal.invariant-loop-left
invariant-loop-left l =
    (advance (metadata_entry_end l.s) l.limit l.left l.p ≡ metadata_entry_at l.s (metadata_count l.s)) × (l.p ≤ length l.s + 25 + longest_string)

abbrev pub decreases-loop-left : goal.decreases-loop-left
decreases-loop-left l = l.left
