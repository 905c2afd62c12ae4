-- `listing::numbers::decimal_length` meets its contract. Assumes nothing.
use Prim.Native.Nat.{◌+◌, ◌≤◌}
use mathlib.Core.Path.{◌≡◌}
use lib.ListN.{length}
use Rattle.listing.specs.Text.{decimal}
use Rattle.listing.proofs.numbers.decimal_length.Given as goal

abbrev pub invariant-loop-v : goal.invariant-loop-v
invariant-loop-v l = (l.k + length (decimal l.v) ≡ length (decimal l.n) + 1) × (length (decimal l.n) ≤ 20)

abbrev pub decreases-loop-v : goal.decreases-loop-v
decreases-loop-v l = l.v
