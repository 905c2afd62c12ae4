-- `page_compare::count::add_to_each` meets its contract. Assumes nothing.
use Prim.Native.Nat.{◌+◌, ◌-◌, ◌≤◌}
use mathlib.Core.Path.{◌≡◌}
use lib.ListN.{length, get_or}
use Rattle.blocks.specs.Folds.{fold_below}
use Rattle.page_compare.specs.Counting.{EachMore}
use Rattle.page_compare.proofs.count.add_to_each.Given as goal

abbrev pub invariant-loop-i : goal.invariant-loop-i
invariant-loop-i l = (length l.counts ≡ length l.initial.counts) × ((l.i ≤ l.n) × (EachMore l.i l.every l.initial.counts l.counts × (l.sum ≡ fold_below ◌+◌ 0 l.i (λ k. get_or l.initial.counts k 0 + l.every))))

abbrev pub decreases-loop-i : goal.decreases-loop-i
decreases-loop-i l = l.n - l.i
