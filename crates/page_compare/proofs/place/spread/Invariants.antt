-- `page_compare::place::spread` meets its contract. Assumes nothing.
use Prim.Native.Nat.{ℕ, ◌+◌, ◌-◌, ◌*◌, ◌≤◌, ◌<◌}
use mathlib.Core.Path.{◌≡◌}
use lib.ListN.{length, get_or}
use Rattle.row_lists.specs.Placing.{SpreadUpto}
use Rattle.page_compare.proofs.place.spread.Given as goal

abbrev pub invariant-loop-i : goal.invariant-loop-i
invariant-loop-i l = ((length l.counts ≡ length l.initial.counts) × (length l.ends ≡ length l.initial.ends)) × ((l.i ≤ l.n) × ((l.at ≤ 1099511627776 + l.i * 1048576) × (((k : ℕ) → l.i ≤ k → k < l.n → get_or l.counts k 0 ≤ 1048576) × SpreadUpto l.n l.from l.room l.i l.at l.initial.counts l.counts l.ends)))

abbrev pub decreases-loop-i : goal.decreases-loop-i
decreases-loop-i l = l.n - l.i
