-- `listing::put_indexes` meets its contract. Assumes nothing.
use Prim.Native.Nat.{◌+◌, ◌*◌, ◌-◌, ◌≤◌}
use mathlib.Core.Path.{◌≡◌}
use lib.ListN.{length}
use Rattle.listing.specs.Listing.{index_lines}
use Rattle.listing.specs.Puts.{Puts}
use Rattle.listing.proofs.put_indexes.Given as goal

abbrev pub invariant-loop-i : goal.invariant-loop-i
invariant-loop-i l = (l.i ≤ l.n) × (l.p ≤ l.at + 21 * l.i) × (length l.out ≡ length l.initial.out) × Puts l.initial.out l.at (index_lines l.s l.i) l.p l.out

abbrev pub decreases-loop-i : goal.decreases-loop-i
decreases-loop-i l = l.n - l.i
