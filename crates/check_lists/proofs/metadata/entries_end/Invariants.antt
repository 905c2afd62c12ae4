-- `check_lists::metadata::entries_end` meets its contract. Assumes nothing.
use mathlib.Core.Path.{◌≡◌}
use Prim.Native.Nat.{◌-◌}
use Rattle.wire.specs.Items.{advance}
use Rattle.bodies.specs.ListDirectories.{metadata_count, metadata_entry_at, metadata_entry_end}
use Rattle.check_lists.proofs.metadata.entries_end.Given as goal

abbrev pub invariant-loop-k : goal.invariant-loop-k
invariant-loop-k l = advance (metadata_entry_end l.s) l.limit (l.n - l.k) l.p ≡ metadata_entry_at l.s (metadata_count l.s)
