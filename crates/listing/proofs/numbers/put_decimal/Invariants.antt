-- `listing::numbers::put_decimal` meets its contract. Assumes nothing.
use Prim.Native.Nat.{◌+◌, ◌≤◌}
use mathlib.Core.Path.{◌≡◌}
use lib.ListN.{length}
use Rattle.listing.specs.Text.{decimal}
use Rattle.listing.proofs.PutsLaws.{Filling}
use Rattle.listing.proofs.numbers.put_decimal.Given as goal

abbrev pub invariant-loop-v : goal.invariant-loop-v
invariant-loop-v l = (l.at + length (decimal l.n) ≤ length l.initial.out) × (length l.out ≡ length l.initial.out) × (1 ≤ l.k) × (l.k ≤ length (decimal l.n)) × Filling l.initial.out l.at l.n l.v l.k l.out

abbrev pub decreases-loop-v : goal.decreases-loop-v
decreases-loop-v l = l.v
