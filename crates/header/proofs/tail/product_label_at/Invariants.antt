-- `header::tail::product_label_at` meets its contract. Assumes nothing.
use Prim.Native.Nat.{◌+◌, ◌-◌, ◌≤◌}
use mathlib.Core.Path.{◌≡◌}
use lib.ListN.{length}
use Rattle.wire.specs.Items.{advance}
use Rattle.header.specs.Element.{string_end, longest_entry}
use Rattle.header.specs.Tail.{product_label_at}
use Rattle.header.proofs.tail.product_label_at.Given as goal

abbrev pub invariant-loop : goal.invariant-loop
invariant-loop l = (advance (string_end l.s) l.limit (l.end - l.counter) l.at ≡ product_label_at l.s) × ((l.at ≤ length l.s + longest_entry + 4) × (l.limit ≤ length l.s))
