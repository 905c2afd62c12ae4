-- `header::entries::entry_start` meets its contract. Assumes nothing.
use Prim.Native.Nat.{◌+◌, ◌-◌, ◌≤◌}
use mathlib.Core.Path.{◌≡◌}
use lib.ListN.{length}
use Rattle.wire.specs.Items.{advance}
use Rattle.header.specs.Element.{entry_end, entry_start, longest_entry}
use Rattle.header.proofs.entries.entry_start.Given as goal

abbrev pub invariant-loop : goal.invariant-loop
invariant-loop l = (advance (entry_end l.s) l.limit (l.e - l.counter) l.at ≡ entry_start l.s l.e) × ((l.at ≤ length l.s + longest_entry) × (l.limit ≤ length l.s))
